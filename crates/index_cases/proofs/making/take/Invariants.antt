use Rattle.std.proofs.Common.{◌≡◌, ◌-◌, length}
use Rattle.index_cases.proofs.making.take.Given as goal

abbrev pub invariant-loop-from : goal.invariant-loop-from
invariant-loop-from l = length l.index ≡ length l.initial.index

abbrev pub decreases-loop-from : goal.decreases-loop-from
decreases-loop-from l = length l.line - l.from
