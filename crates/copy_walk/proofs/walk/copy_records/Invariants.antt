use Prim.Native.Nat.{◌-◌}
use Rattle.copy_walk.proofs.CopyLoop.{Copied}
use Rattle.copy_walk.proofs.walk.copy_records.Given as goal

abbrev pub invariant-loop-i : goal.invariant-loop-i
invariant-loop-i l = Copied l.entry l.initial.out l.n l.j l.out l.i

abbrev pub decreases-loop-i : goal.decreases-loop-i
decreases-loop-i l = l.n - l.i
