use Rattle.std.proofs.Common.{◌≡◌, ◌-◌, length}
use Rattle.mutations.proofs.change.Given as goal

abbrev pub invariant-loop-k : goal.invariant-loop-k
invariant-loop-k l = length l.entry ≡ length l.initial.entry

abbrev pub decreases-loop-k : goal.decreases-loop-k
decreases-loop-k l = 8 - l.k
