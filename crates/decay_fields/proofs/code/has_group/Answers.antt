use mathlib.Core.Path.{◌∙◌, ap, refl, sym}
use Prim.Native.Nat.{ℕ}
use Rattle.paper_record.specs.Text.{within}
use Rattle.paper_decay_fields.specs.Asked.{has_group}
use Rattle.decay_fields.proofs.code.has_group.Goals as goal

pub returns-then-not-is_code : goal.returns-then-not-is_code
unfolding has_group
returns-then-not-is_code c =
    let e = sym c.is_code.ensures ∙ c.if-not-is_code.true in
    rw e refl

pub returns : goal.returns
unfolding has_group
returns c =
    let k = c.args.k in
    let e = sym c.is_code.ensures ∙ c.if-not-is_code.false in
    rw e (c.is_within.ensures ∙ ap (λ (n : ℕ). within 1 n k) c.groups_in-groups.ensures)
