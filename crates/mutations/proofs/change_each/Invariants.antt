use Rattle.std.proofs.Common.{◌≡◌, ◌-◌, length}
use Rattle.mutations.proofs.change_each.Given as goal

abbrev pub invariant-loop-at : goal.invariant-loop-at
invariant-loop-at l = length l.entry ≡ length l.initial.entry

abbrev pub decreases-loop-at : goal.decreases-loop-at
decreases-loop-at l = length l.entry - l.at
