use Prim.Native.Nat.{◌-◌}
use Rattle.merges.proofs.writing.say_records.Goals as goal

-- Safe, and ends: a record goes at each turn.

pub loop-at-init : goal.loop-at-init
loop-at-init c = tt

pub returns-then-all-at-lt81 : goal.returns-then-all-at-lt81
returns-then-all-at-lt81 c = tt

pub loop-at-preserved : goal.loop-at-preserved
loop-at-preserved c = tt

pub returns : goal.returns
returns c = tt
