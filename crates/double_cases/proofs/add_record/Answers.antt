use Prim.Native.Nat.{◌-◌}
use lib.ListN.{length-set}
use mathlib.Core.Path.{refl}
use native.Mathlib.Omega.{arith}
use Rattle.double_cases.proofs.add_record.Goals as goal

pub returns-then-line-ne81 : goal.returns-then-line-ne81
returns-then-line-ne81 c = tt

pub returns-then-entry-lt81 : goal.returns-then-entry-lt81
returns-then-entry-lt81 c = tt

pub returns-then-entry-used : goal.returns-then-entry-used
returns-then-entry-used c = tt

pub loop-i-init : goal.loop-i-init
loop-i-init c = (omega arith, omega arith, omega arith, refl)

pub loop-i-preserved : goal.loop-i-preserved
loop-i-preserved c =
    let inv = c.loop-i.invariant in
    (omega arith, inv.1, inv.2, simp length-set inv.3)

pub returns : goal.returns
returns c = tt
