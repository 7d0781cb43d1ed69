use lib.ListN.{length}
use Prim.Native.Nat.{◌-◌}
use Rattle.merges.proofs.asking.ask_subentries.Given as goal

abbrev pub invariant-loop-at : goal.invariant-loop-at
invariant-loop-at l = Unit {0}

abbrev pub decreases-loop-at : goal.decreases-loop-at
decreases-loop-at l = length l.numbers - l.at
