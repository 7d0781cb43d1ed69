-- Questions by an index, of any numbers (document 02, M-102):
--
--   "With any other numbers the lookup still ends: it takes the first row with that number [..] asking, 38 not whole
--   rows, then 32 to 36, with 39 where it is met and 31 no longer given."
use Rattle.std.specs.Prelude.{ℕ, ◌+◌, ◌*◌, ◌/◌, ◌%◌, Bool, cond, not, List, [], ◌∷◌, eqb, length, get_or}
use Rattle.laws.specs.Search.{first}
use Rattle.paper_number.specs.declared.types.Reading.TheVariants.{Blank}
use Rattle.paper_record.specs.declared.types.LineNo.{LineNo}
use Rattle.paper_entry.specs.Answer.{refusal, first_of, answer_of}
use Rattle.paper_questions.specs.declared.types.Row.{Row}
use Rattle.paper_questions.specs.declared.types.ValueAnswer.{ValueAnswer}
use Rattle.paper_questions.specs.declared.types.PartAnswer.{PartAnswer}
use Rattle.paper_questions.specs.Row.{empty_row}
use Rattle.paper_questions.specs.PartAnswers.{no_part}
use Rattle.paper_index.specs.declared.types.RowAnswer.{RowAnswer}
use Rattle.paper_index.specs.TableAnswers.{value_from_row, heading_from_row, unit_from_row}
use Rattle.paper_index.specs.PassageAnswers.{passage_from_row}

-- ---- "the first row with that number"

-- the row that has so many before it
abbrev pub row_in : List ℕ → ℕ → Row
row_in t i =
    record {
      number = get_or t (i * 5) 0;
      first = record { 0 = get_or t (i * 5 + 1) 0 };
      bib = record { 0 = get_or t (i * 5 + 2) 0 };
      common = record { 0 = get_or t (i * 5 + 3) 0 };
      «data» = record { 0 = get_or t (i * 5 + 4) 0 };
    }

abbrev pub has_row : List ℕ → ℕ → ℕ → Bool
has_row t n i = eqb (get_or t (i * 5) 0) n

-- how many rows stand before it; all of them where there is none
unfoldable pub rows_before : List ℕ → ℕ → ℕ
rows_before t n = first (has_row t n) 0 (length t / 5)

-- "38 not whole rows", "32 no such subentry"
abbrev pub row_refusal : List ℕ → ℕ → ℕ
row_refusal t n =
    first_of (refusal 38 (not (eqb (length t % 5) 0)) ∷ refusal 32 (eqb (rows_before t n) (length t / 5)) ∷ [])

unfoldable pub row_by_index : List ℕ → ℕ → RowAnswer
row_by_index t n =
    let there = eqb (row_refusal t n) 0 in
    record {
      number = row_refusal t n;
      before = cond there (rows_before t n) 0;
      row = cond there (row_in t (rows_before t n)) (empty_row n);
    }

-- ---- the answers: from that row

abbrev pub refused_value : ℕ → ValueAnswer
refused_value number = record { answer = answer_of number; value = Blank; digits = 0 }

unfoldable pub value_by_index : List ℕ → List ℕ → ℕ → ℕ → LineNo → ℕ → ValueAnswer
value_by_index s t n section line column =
    cond (eqb (row_refusal t n) 0) (value_from_row s (row_in t (rows_before t n)) section line column)
    (refused_value (row_refusal t n))

abbrev pub part_by_index : List ℕ → ℕ → PartAnswer → PartAnswer
part_by_index t n p = cond (eqb (row_refusal t n) 0) p (no_part (answer_of (row_refusal t n)))

unfoldable pub heading_by_index : List ℕ → List ℕ → ℕ → ℕ → ℕ → PartAnswer
heading_by_index s t n section column =
    part_by_index t n (heading_from_row s (row_in t (rows_before t n)) section column)

unfoldable pub unit_by_index : List ℕ → List ℕ → ℕ → ℕ → ℕ → PartAnswer
unit_by_index s t n section column = part_by_index t n (unit_from_row s (row_in t (rows_before t n)) section column)

unfoldable pub passage_by_index : List ℕ → List ℕ → ℕ → List ℕ → ℕ → PartAnswer
passage_by_index s t n keyword pointer =
    part_by_index t n (passage_from_row s (row_in t (rows_before t n)) keyword pointer)
