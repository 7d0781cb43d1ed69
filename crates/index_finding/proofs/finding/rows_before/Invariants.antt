use Prim.Native.Nat.{◌/◌}
use mathlib.Core.Path.{◌≡◌}
use lib.ListN.{length}
use Rattle.laws.proofs.Search.{Scan}
use Rattle.paper_index.specs.ByIndex.{has_row, rows_before}
use Rattle.index_finding.proofs.finding.rows_before.Given as goal

abbrev pub invariant-loop-i : goal.invariant-loop-i
invariant-loop-i l = (l.rows ≡ length l.index / 5) × Scan (has_row l.index l.number) (rows_before l.index l.number) l.i l.rows
