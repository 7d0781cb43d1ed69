use Rattle.paper_cinda.specs.Rules.{rule72}
use borrow.Author.Tests.{le-ltb, lt-ltb}
use Rattle.laws.specs.Search.{first}
use Prim.Native.Nat.{◌+◌}
use mathlib.Core.Path.{◌≡◌, ◌∙◌}
use Rattle.record.proofs.Found.{permitted-in-first}
use Rattle.paper_record.specs.Class.{not_permitted}
use Rattle.paper_faults.proofs.Leftmost.{leftmost-where}
use Rattle.cinda_rules.proofs.rules.rule72.Goals as goal

pub returns-then-n-lt125 : goal.returns-then-n-lt125
unfolding rule72
returns-then-n-lt125 c =
    let l = c.args.line.now in
    let e : c.permitted_in-n.result ≡ first (not_permitted l) 0 125 =
    c.permitted_in-n.ensures ∙ permitted-in-first 125 l in
    rw (leftmost-where (not_permitted l) (λ i. i + 1) 125, ← e, lt-ltb _ _ c.if-n-lt125.true)

pub returns : goal.returns
unfolding rule72
returns c =
    let l = c.args.line.now in
    let e : c.permitted_in-n.result ≡ first (not_permitted l) 0 125 =
    c.permitted_in-n.ensures ∙ permitted-in-first 125 l in
    rw (leftmost-where (not_permitted l) (λ i. i + 1) 125, ← e, le-ltb _ _ c.if-n-lt125.false)
