use Prim.Native.Nat.{◌-◌}
use Rattle.decay_cases.proofs.read_cases.Goals as goal

-- Safe, and ends: a case of the text goes at each turn.

pub loop-from-init : goal.loop-from-init
loop-from-init c = tt

pub returns-then-text-end : goal.returns-then-text-end
returns-then-text-end c = tt

pub loop-from-preserved : goal.loop-from-preserved
loop-from-preserved c = tt

pub returns : goal.returns
returns c = tt
