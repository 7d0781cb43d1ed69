use Prim.Native.Nat.{◌-◌, ◌/◌, ◌≤◌}
use Rattle.paper_entry.specs.Judging.{Accepted}
use Rattle.paper_rules.specs.Limits.{MOST-RECORDS}
use Rattle.system_records.specs.Next.{RowTo}
use lib.ListN.{length}
use mathlib.Core.Path.{◌≡◌}
use Rattle.questions_system.proofs.row.row_of.Given as goal

abbrev pub invariant-loop-i : goal.invariant-loop-i
invariant-loop-i l =
    Accepted l.entry × (l.n ≡ length l.entry / 81) × (length l.entry / 81 ≤ MOST-RECORDS) × RowTo l.entry l.number l.i l.hand l.row

abbrev pub decreases-loop-i : goal.decreases-loop-i
decreases-loop-i l = l.n - l.i
