use lib.ListN.{length}
use Prim.Native.Nat.{◌-◌}
use Rattle.merges.proofs.writing.sum_of.Given as goal

abbrev pub invariant-loop-i : goal.invariant-loop-i
invariant-loop-i l = Unit {0}

abbrev pub decreases-loop-i : goal.decreases-loop-i
decreases-loop-i l = length l.all - l.i
