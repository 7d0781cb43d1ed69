use Rattle.laws.proofs.Search.{Scan}
use Rattle.paper_revisions.specs.Extents.{is_of, first_saying, records_of}
use mathlib.Core.Path.{◌≡◌}
use Rattle.revisions_extents.proofs.extents.first_of.Given as goal

abbrev pub invariant-loop-i : goal.invariant-loop-i
invariant-loop-i l = (l.records ≡ records_of l.entry) × Scan (is_of l.entry l.n) (first_saying l.entry l.n) l.i l.records
