use lib.ListN.{length}
use Prim.Native.Nat.{◌-◌}
use Rattle.decay_cases.proofs.read_cases.Given as goal

abbrev pub invariant-loop-from : goal.invariant-loop-from
invariant-loop-from l = Unit {0}

abbrev pub decreases-loop-from : goal.decreases-loop-from
decreases-loop-from l = length l.text - l.from
