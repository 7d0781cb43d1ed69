use Prim.Native.Nat.{◌-◌}
use Rattle.index_walk.proofs.RowsLoop.{Storing}
use Rattle.index_walk.proofs.walk.store_rows.Given as goal

abbrev pub invariant-loop-i : goal.invariant-loop-i
invariant-loop-i l = Storing l.entry l.initial.index l.n l.hand l.rows l.index l.row l.i

abbrev pub decreases-loop-i : goal.decreases-loop-i
decreases-loop-i l = l.n - l.i
