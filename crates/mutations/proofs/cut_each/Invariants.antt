use Rattle.std.proofs.Common.{◌≤◌, length}
use Rattle.mutations.proofs.cut_each.Given as goal

abbrev pub invariant-loop-left : goal.invariant-loop-left
invariant-loop-left l = l.left ≤ length l.entry

abbrev pub decreases-loop-left : goal.decreases-loop-left
decreases-loop-left l = l.left
