use Prim.Native.Nat.{◌-◌}
use Rattle.decay_cases.proofs.fields.say_types.Given as goal

abbrev pub invariant-loop-i : goal.invariant-loop-i
invariant-loop-i l = Unit {0}

abbrev pub decreases-loop-i : goal.decreases-loop-i
decreases-loop-i l = 1000 - l.i
