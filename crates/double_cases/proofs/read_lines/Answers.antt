use Prim.Native.Nat.{◌-◌}
use mathlib.Core.Path.{◌∙◌, refl}
use Rattle.double_cases.proofs.read_lines.Goals as goal

pub loop-from-init : goal.loop-from-init
loop-from-init c = refl

pub loop-from-preserved : goal.loop-from-preserved
loop-from-preserved c =
    let turn = c.loop-from in
    c.read_line-used.auto.entry ∙ turn.invariant

pub returns : goal.returns
returns c = tt
