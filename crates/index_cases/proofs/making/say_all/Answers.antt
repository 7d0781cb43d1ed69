use Rattle.std.proofs.Common.{◌-◌}
use Rattle.index_cases.proofs.making.say_all.Goals as goal

-- Safe, and ends.

pub loop-i-init : goal.loop-i-init
loop-i-init c = tt

pub loop-i-preserved : goal.loop-i-preserved
loop-i-preserved c = tt

pub returns : goal.returns
returns c = tt
