use Rattle.std.proofs.Common.{◌-◌, length, length-set}
use Rattle.index_cases.proofs.making.take.Goals as goal

-- Safe, and ends: ten columns of the line go at each turn. The slice keeps its length.

pub loop-from-preserved : goal.loop-from-preserved
loop-from-preserved c = simp length-set c.loop-from.invariant
