-- A question by an index is answered from the row that is found, and refused by its number where none is.
-- Assumes nothing.
use Prim.Native.Nat.{ℕ}
use mathlib.Core.Path.{◌≡◌, refl}
use mathlib.Core.List.{List}
use borrow.Author.Tests.{ne_eqb, eq-eqb}
use Rattle.paper_record.specs.declared.types.LineNo.{LineNo}
use Rattle.paper_entry.specs.Answer.{answer_of}
use Rattle.paper_questions.specs.declared.types.Row.{Row}
use Rattle.paper_questions.specs.declared.types.PartAnswer.{PartAnswer}
use Rattle.paper_questions.specs.PartAnswers.{no_part}
use Rattle.paper_index.specs.TableAnswers.{value_from_row}
use Rattle.paper_index.specs.ByIndex.{row_in, rows_before, row_refusal, row_by_index, refused_value, value_by_index}
use Rattle.paper_index.specs.ByIndex.{part_by_index}

module _ (t : List ℕ) (n : ℕ) where
  module _ (s : List ℕ) (section : ℕ) (line : LineNo) (column : ℕ) where
    pub value-unfound : ((row_by_index t n).number ≡ 0 → ⊥)
        → refused_value (row_by_index t n).number ≡ value_by_index s t n section line column
    unfolding row_by_index value_by_index
    value-unfound h = rw (ne_eqb (row_refusal t n) 0 h)

    pub value_found : (row_by_index t n).number ≡ 0
        → value_from_row s (row_by_index t n).row section line column ≡ value_by_index s t n section line column
    unfolding row_by_index value_by_index
    value_found h = rw (eq-eqb (row_refusal t n) 0 h)

  module _ (from : Row → PartAnswer) where
    pub part-unfound : ((row_by_index t n).number ≡ 0 → ⊥)
        → no_part (answer_of (row_by_index t n).number) ≡ part_by_index t n (from (row_in t (rows_before t n)))
    unfolding row_by_index
    part-unfound h = rw (ne_eqb (row_refusal t n) 0 h)

    pub part-found : (row_by_index t n).number ≡ 0
        → from (row_by_index t n).row ≡ part_by_index t n (from (row_in t (rows_before t n)))
    unfolding row_by_index
    part-found h = rw (eq-eqb (row_refusal t n) 0 h)
