use Rattle.std.proofs.Common.{◌≡◌, ◌≤◌, length, false}
use Rattle.paper_number.specs.Reading.{Scan, blank, column, scan_step}
use Rattle.paper_number.specs.Walk.{read_from}
use Rattle.number_walk.proofs.walk.blanks_from.Given as goal

abbrev pub invariant-loop-i : goal.invariant-loop-i
invariant-loop-i l =
    (l.from ≤ l.i) × (l.i ≤ length l.s)
    × ((t : Scan) → scan_step t (column blank 0 false) ≡ t → read_from t l.from l.s ≡ read_from t l.i l.s)
