use Prim.Native.Nat.{◌-◌}
use Rattle.decay_cases.proofs.fields.say_energies.Goals as goal

-- Safe, and ends: at most a thousand turns.

pub loop-i-init : goal.loop-i-init
loop-i-init c = tt

pub returns-then-n-i : goal.returns-then-n-i
returns-then-n-i c = tt

pub loop-i-preserved : goal.loop-i-preserved
loop-i-preserved c = tt

pub returns : goal.returns
returns c = tt
