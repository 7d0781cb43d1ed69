use Prim.Native.Nat.{◌-◌}
use native.Mathlib.Omega.{arith}
use Rattle.copies.proofs.say_stars.Goals as goal

-- Safe, and ends: no more stars than bytes so far, so their number fits.

pub loop-i-init : goal.loop-i-init
loop-i-init c = (omega arith, omega arith)

pub loop-i-preserved : goal.loop-i-preserved
loop-i-preserved c = (omega arith, omega arith)

pub returns : goal.returns
returns c = tt
