use Prim.Native.Nat.{◌+◌, ◌≤◌}
use Rattle.laws.proofs.Search.{Scan}
use Rattle.paper_index.specs.PassageAnswers.{ended_at}
use Rattle.paper_questions.specs.Passage.{begins, text_at}
use Rattle.questions_passages.proofs.passage.ended_at.Given as goal

abbrev pub invariant-loop-past : goal.invariant-loop-past
invariant-loop-past l = (l.p + 1 ≤ l.past) × Scan (λ m. begins (text_at l.entry l.bib m)) (ended_at l.entry l.bib l.p l.n) l.past l.n
