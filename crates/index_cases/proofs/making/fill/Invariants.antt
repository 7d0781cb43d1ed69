use Rattle.std.proofs.Common.{◌≡◌, ◌-◌, length}
use Rattle.index_cases.proofs.making.fill.Given as goal

abbrev pub invariant-loop-i : goal.invariant-loop-i
invariant-loop-i l = length l.index ≡ length l.initial.index

abbrev pub decreases-loop-i : goal.decreases-loop-i
decreases-loop-i l = length l.initial.index - l.i
