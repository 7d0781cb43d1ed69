-- The answers about lines as calls give them (document 02, M-113: "named with the line"; document 01: "A refused call stores
-- nothing"): number, line and column in one word, and a line in fourteen numbers and twice the eight of a number field.
use Rattle.std.specs.Prelude.{ℕ, ◌+◌, ◌*◌, ◌%◌, ◌^◌, List, [], ◌∷◌}
use Rattle.paper_number.specs.declared.types.FieldRead.{FieldRead}
use Rattle.paper_cinda.specs.declared.types.LinesAnswer.{LinesAnswer}
use Rattle.paper_cinda.specs.declared.types.Line.{Line}
use Rattle.paper_cinda.specs.declared.types.LineAnswer.{LineAnswer}
use Rattle.paper_cinda.specs.Apart.{mass_answer}
use Rattle.exports_words.specs.Words.{lent_after}
use Rattle.exports_values.specs.Values.{reading_stored}

-- ---- the word: in bits 0 to 7 the call's number, in 16 to 23 the column, in 24 to 47 the line, as every call's word has its
-- number, column and record (the law `word-alike` in lines_back). The line's room holds what its bits can say; that no answer
-- is larger are the laws `check-back`, `line-back`, `Piece-back` and `written_back` there.

unfoldable pub lines_word : LinesAnswer → ℕ
lines_word a = a.number + 2 ^ 16 * (a.column + 2 ^ 8 * (a.line.0 % 2 ^ 24))

-- ---- a line: its numbers and single characters; A is two numbers, itself or 0, and 1 where it is many

abbrev pub line_numbers : Line → List ℕ
line_numbers l =
    l.operation ∷ l.z ∷ (mass_answer l.mass).number ∷ (mass_answer l.mass).many ∷ l.isomer ∷ l.area ∷ l.block
    ∷ l.sequence ∷ l.work ∷ l.reader ∷ l.hierarchy ∷ l.kind ∷ l.year ∷ l.month ∷ []

unfoldable pub numbers_stored : List ℕ → LineAnswer → List ℕ
numbers_stored before a = lent_after a.answer.number before (line_numbers a.line)

-- one of its two energies
unfoldable pub energy_stored : List ℕ → LinesAnswer → FieldRead → List ℕ
energy_stored before a field = lent_after a.number before (reading_stored before field)
