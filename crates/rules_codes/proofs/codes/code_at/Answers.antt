use Rattle.laws.specs.Members.{any_of}
use Rattle.paper_rules.proofs.CodesNext.{code_here}
use mathlib.Core.Bool.{false, true}
use mathlib.Core.Path.{◌∙◌, ◌≡◌, refl}
use Rattle.rules_codes.proofs.codes.code_at.Goals as goal

pub returns-then-under : goal.returns-then-under
returns-then-under c =
    let e : c.args.under ≡ true = c.if-under.true in
    rw e (c.is_code_of.ensures ∙ code_here c.args.part.now c.args.at c.args.n c.requires.0)

pub returns-else-under : goal.returns-else-under
unfolding any_of
returns-else-under c =
    let e : c.args.under ≡ false = c.if-under.false in
    rw e refl
