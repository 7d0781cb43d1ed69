use Rattle.paper_files.specs.Parts.{end_of, named_at, records_of}
use Rattle.laws.proofs.Search.{Scan}
use Rattle.paper_record.specs.Identifier.{ENDENTRY}
use mathlib.Core.Path.{◌≡◌}
use Rattle.files_parts.proofs.parts.end_of.Given as goal

abbrev pub invariant-loop-i : goal.invariant-loop-i
invariant-loop-i l = (l.n ≡ records_of l.bytes) × Scan (named_at ENDENTRY l.bytes) (end_of l.bytes) l.i l.n
