use Rattle.std.proofs.Common.{◌-◌, length, length-set}
use Rattle.index_cases.proofs.making.fill.Goals as goal

-- Safe, and ends; the slice keeps its length.

pub loop-i-preserved : goal.loop-i-preserved
loop-i-preserved c = simp length-set c.loop-i.invariant
