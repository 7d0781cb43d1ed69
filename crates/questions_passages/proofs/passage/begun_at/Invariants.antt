use Rattle.laws.proofs.Search.{Scan}
use Rattle.paper_index.specs.PassageAnswers.{begins_at, begun_at, is_under}
use mathlib.Core.Path.{◌≡◌}
use Rattle.questions_passages.proofs.passage.begun_at.Given as goal

abbrev pub invariant-loop-i : goal.invariant-loop-i
invariant-loop-i l = (l.under ≡ is_under l.entry l.bib l.keyword l.i) × Scan (begins_at l.entry l.bib l.keyword l.pointer) (begun_at l.entry l.bib l.keyword l.pointer l.n) l.i l.n
