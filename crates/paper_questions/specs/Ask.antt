-- The questions: an answer comes from the verdict on the entry and the row of the subentry (`..By` in
-- ValueAnswers and PartAnswers), and both from the entry alone. Their refusals, in the paper's order, are in Refused.
use Rattle.std.specs.Prelude.{ℕ, ◌≡◌, List}
use Rattle.paper_record.specs.declared.types.LineNo.{LineNo}
use Rattle.paper_entry.specs.Judging.{judge_of}
use Rattle.paper_questions.specs.declared.types.ValueAnswer.{ValueAnswer}
use Rattle.paper_questions.specs.declared.types.PartAnswer.{PartAnswer}
use Rattle.paper_questions.specs.Located.{row_of}
use Rattle.paper_questions.specs.ValueAnswers.{value_by, value_said, blank_beside}
use Rattle.paper_questions.specs.PartAnswers.{heading_by, unit_by, passage_by}

unfoldable pub value_asked : List ℕ → ℕ → ℕ → LineNo → ℕ → ValueAnswer
value_asked s n section line column = value_by s (judge_of s) (row_of s n) section line column

abbrev pub RefusedSaid : Type 0
RefusedSaid =
    (s : List ℕ) (n section : ℕ) (line : LineNo) (column : ℕ)
    → ((value_asked s n section line column).answer.number ≡ 0 → ⊥)
    → value_said (value_asked s n section line column) ≡ blank_beside (value_asked s n section line column).answer.number

unfoldable pub heading_asked : List ℕ → ℕ → ℕ → ℕ → PartAnswer
heading_asked s n section column = heading_by s (judge_of s) (row_of s n) section column

unfoldable pub unit_asked : List ℕ → ℕ → ℕ → ℕ → PartAnswer
unit_asked s n section column = unit_by s (judge_of s) (row_of s n) section column

unfoldable pub passage_asked : List ℕ → ℕ → List ℕ → ℕ → PartAnswer
passage_asked s n keyword pointer = passage_by s (judge_of s) (row_of s n) keyword pointer
