use Rattle.laws.proofs.Search.{Scan}
use Rattle.laws.specs.Search.{first}
use Rattle.paper_record.specs.Identifier.{name_at}
use Rattle.paper_record.specs.Word.{differ_at}
use Rattle.record_names.proofs.identifier.Names.is_name.Given as goal

abbrev pub invariant-loop-i : goal.invariant-loop-i
invariant-loop-i l = Scan (differ_at l.fn.f (name_at l.fn.k)) (first (differ_at l.fn.f (name_at l.fn.k)) 0 11) l.i 11
