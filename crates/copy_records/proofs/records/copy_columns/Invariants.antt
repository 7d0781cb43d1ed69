use Prim.Native.Nat.{◌≤◌}
use lib.ListN.{drop, length}
use lib.Seq.{paste}
use mathlib.Core.Path.{◌≡◌}
use Rattle.copy_records.proofs.records.copy_columns.Given as goal

abbrev pub invariant-loop-i : goal.invariant-loop-i
invariant-loop-i l =
    (l.out ≡ paste l.initial.out l.at (drop l.from l.rec) l.i) × (l.i ≤ l.n) × (length l.out ≡ length l.initial.out)
