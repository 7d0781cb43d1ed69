use Rattle.paper_canonical.proofs.Preparing.{layout-above, layout-below}
use Rattle.paper_canonical.specs.Closed.{layout_up, layout_down}
use Rattle.canonical_layout.proofs.layout.layout_of.Goals as goal
use mathlib.Core.Path.{◌∙◌, ap}
use mir.Syntax.{w64}
use mir.ValLaws.{to_z-of_z}
use Prim.Native.Nat.{ℕ}
use native.Mathlib.Omega.{arith}

pub layout_down-requires : goal.layout_down-requires
layout_down-requires c =
    let e = rw (to_z-of_z w64 c.args.power c.ranges.power) at c.unsigned_abs-size.ensures.value in
    (c.requires.0, omega (arith, e))

pub returns-then-power-lt0 : goal.returns-then-power-lt0
returns-then-power-lt0 c =
    let flat = to_z-of_z w64 c.args.power c.ranges.power in
    c.layout_down.ensures
    ∙ ap (λ (t : ℕ). layout_down c.args.d t) (rw flat at c.unsigned_abs-size.ensures.value)
    ∙ layout-below c.args.d c.args.power (rw flat at c.if-power-lt0.true)

pub returns-else-power-lt0 : goal.returns-else-power-lt0
returns-else-power-lt0 c =
    let flat = to_z-of_z w64 c.args.power c.ranges.power in
    c.layout_up.ensures
    ∙ ap (λ (t : ℕ). layout_up c.args.d t) (rw flat at c.unsigned_abs-size.ensures.value)
    ∙ layout-above c.args.d c.args.power (rw flat at c.if-power-lt0.false)
