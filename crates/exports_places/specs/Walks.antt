-- A walk over the values of a table as calls give it (document 02, M-112). Where it stands are five numbers: the section's
-- record, its columns and lines, and line and column of the value that comes next. What is given is a place, 1 with line and
-- column, or three zeros where it is done, and beside it the value as a question for it stores it.
use Rattle.std.specs.Prelude.{ℕ, List, [], ◌∷◌, get_or, Option, Some, None}
use Rattle.paper_entry.specs.declared.types.Answer.{Answer}
use Rattle.paper_entry.specs.Answer.{answer_of}
use Rattle.paper_walk.specs.declared.types.Walk.{Walk}
use Rattle.paper_walk.specs.declared.types.Given.{Given}
use Rattle.exports_words.specs.Words.{lent_after}
use Rattle.exports_values.specs.Values.{reading_answer, reading_stored}

-- ---- where a walk stands

abbrev pub walk_numbers : Walk → List ℕ
walk_numbers w = w.section.0 ∷ w.columns ∷ w.lines ∷ w.line.0 ∷ w.column ∷ []

-- a walk that is refused stores nothing
unfoldable pub walk_stored : List ℕ → Walk → List ℕ
walk_stored before w = lent_after w.answer.number before (walk_numbers w)

-- the walk that five numbers say, whatever they are
abbrev pub walk_in : List ℕ → Walk
walk_in xs =
    record {
      answer = answer_of 0;
      section = record { 0 = get_or xs 0 0 };
      columns = get_or xs 1 0;
      lines = get_or xs 2 0;
      line = record { 0 = get_or xs 3 0 };
      column = get_or xs 4 0;
    }

-- ---- what is given

abbrev pub place_numbers : Option Given → List ℕ
place_numbers (Some g) = 1 ∷ g.line.0 ∷ g.column ∷ []
place_numbers None = 0 ∷ 0 ∷ 0 ∷ []

-- 0; 15 where the field is malformed, which no accepted entry has (`walk-said`, walk_laws)
abbrev pub given_answer : Option Given → Answer
given_answer (Some g) = reading_answer g.field.reading
given_answer None = answer_of 0

abbrev pub given_stored : List ℕ → Option Given → List ℕ
given_stored before (Some g) = reading_stored before g.field
given_stored before None = before
