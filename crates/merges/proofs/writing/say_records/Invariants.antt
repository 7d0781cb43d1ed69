use lib.ListN.{length}
use Prim.Native.Nat.{◌-◌}
use Rattle.merges.proofs.writing.say_records.Given as goal

abbrev pub invariant-loop-at : goal.invariant-loop-at
invariant-loop-at l = Unit {0}

abbrev pub decreases-loop-at : goal.decreases-loop-at
decreases-loop-at l = length l.all - l.at
