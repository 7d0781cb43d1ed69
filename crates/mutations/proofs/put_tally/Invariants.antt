use Rattle.std.proofs.Common.{◌-◌, ◌≤◌}
use Rattle.mutations.proofs.put_tally.Given as goal

abbrev pub invariant-loop-i : goal.invariant-loop-i
invariant-loop-i l = l.i ≤ 18

abbrev pub decreases-loop-i : goal.decreases-loop-i
decreases-loop-i l = 18 - l.i
