use Prim.Native.Nat.{◌-◌}
use Rattle.decay_cases.proofs.fields.say_groups.Goals as goal

-- Safe, and ends: at most a thousand turns.

pub loop-k-init : goal.loop-k-init
loop-k-init c = tt

pub returns-then-n-k : goal.returns-then-n-k
returns-then-n-k c = tt

pub loop-k-preserved : goal.loop-k-preserved
loop-k-preserved c = tt

pub returns : goal.returns
returns c = tt
