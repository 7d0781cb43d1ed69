-- The answer for a code as a call gives it (document 02, M-106): number, record and column in the word of every call, and how
-- long the run is. "A refused call stores nothing."
use Rattle.std.specs.Prelude.{ℕ, List}
use Rattle.paper_codes.specs.declared.types.CodeIn.{CodeIn}
use Rattle.paper_codes.specs.declared.types.CodeAnswer.{CodeAnswer}
use Rattle.paper_codes.specs.Asked.{answered}
use Rattle.exports_words.specs.Words.{answer_word}
use Rattle.exports_parts.specs.Questions.{number_stored}

unfoldable pub code_word : CodeAnswer → ℕ
code_word a = answer_word a.answer

unfoldable pub length_stored : List ℕ → CodeAnswer → List ℕ
length_stored before a = number_stored before a.answer a.length

-- of a passage in hand: its records are counted from its first
abbrev pub in_hand : CodeIn → CodeAnswer
in_hand x = answered 0 x
