use Rattle.laws.proofs.Search.{Scan}
use Rattle.paper_record.specs.Identifier.{OTHER, identifier_of, is_name}
use Rattle.record_names.proofs.identifier.Names.identifier_of.Given as goal

abbrev pub invariant-loop-k : goal.invariant-loop-k
invariant-loop-k l = Scan (is_name l.f) (identifier_of l.f) l.k OTHER
