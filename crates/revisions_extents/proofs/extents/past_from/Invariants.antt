use Prim.Native.Nat.{◌≤◌}
use Rattle.laws.proofs.Search.{Scan}
use Rattle.paper_revisions.specs.Extents.{is_other, records_of, past_from}
use mathlib.Core.Path.{◌≡◌}
use Rattle.revisions_extents.proofs.extents.past_from.Given as goal

abbrev pub invariant-loop-i : goal.invariant-loop-i
invariant-loop-i l =
    (l.records ≡ records_of l.entry)
    × Scan (is_other l.entry l.n) (past_from l.entry l.n l.from) l.i l.records
    × (l.from ≤ l.i)
