-- For an accepted entry and its own index every answer is the full one: the row that is found is the subentry's, and where
-- none is found the entry has no such subentry.
-- Assumes nothing.
use Prim.Native.Nat.{ℕ, ◌/◌, ◌<◌}
use mathlib.Core.Path.{◌≡◌, refl, sym, ap, ◌∙◌}
use mathlib.Core.Bool.{Bool, true, false}
use mathlib.Core.List.{List}
use native.Mathlib.Omega.{arith}
use borrow.Author.Tests.{eq-eqb, ne_eqb, eqb-true, eqb-false}
use lib.Dec.{eqb}
use lib.ListN.{length}
use Rattle.laws.proofs.Search.{first_to}
use Rattle.paper_record.specs.declared.types.RecordNo.{RecordNo}
use Rattle.paper_entry.specs.Judging.{judge_of, Accepted}
use Rattle.paper_questions.specs.declared.types.PartAnswer.{PartAnswer}
use Rattle.paper_questions.specs.declared.types.ValueAnswer.{ValueAnswer}
use Rattle.paper_questions.specs.declared.types.Row.{Row}
use Rattle.paper_questions.specs.Located.{row_of}
use Rattle.paper_index.specs.Rows.{index_of}
use Rattle.paper_index.specs.Asked.{no_row, value_found, part_found}
use Rattle.paper_index.specs.TableAnswers.{value_from_row, heading_from_row, unit_from_row}
use Rattle.paper_index.specs.PassageAnswers.{passage_from_row}
use Rattle.paper_index.specs.ByIndex.{has_row, row_in, rows_before, row_refusal, part_by_index}
use Rattle.paper_index.specs.ByIndex.{value_by_index, heading_by_index, unit_by_index, passage_by_index}
use Rattle.paper_index.specs.Claims.{SameValue, SameHeading, SameUnit, SamePassage}
use Rattle.row_answers.proofs.RowAnswers.{value-by-row, heading-by-row, unit-by-row}
use Rattle.row_passages.proofs.PassageByRow.{passage-by-row}
use Rattle.index_rows.proofs.Found.{index-whole, row-found}
use Rattle.index_rows.proofs.Said.{row-none, found-has-first}

module _ (s : List ℕ) (a : Accepted s) (n : ℕ) where
  abbrev t : List ℕ
  t = index_of s

  -- either way the index and the entry say the same of the number
  pub data Either : Type 0 where
    there : row_refusal t n ≡ 0 → no_row (judge_of s) (row_of s n) ≡ 0 → row_in t (rows_before t n) ≡ row_of s n → Either
    nowhere : row_refusal t n ≡ 32 → no_row (judge_of s) (row_of s n) ≡ 32 → Either

  pub either : Either
  unfolding rows_before
  either = by_place (eqb (rows_before t n) (length t / 5)) refl
    where
      by_place : (b : Bool) → eqb (rows_before t n) (length t / 5) ≡ b → Either
      by_place true e =
          let f : (row_of s n).first.0 ≡ 0 =
          ap (λ (r : RecordNo). r.0) (row-none s a n (eqb-true (rows_before t n) (length t / 5) e)) in
          nowhere (rw (index-whole s, e)) (rw (a, eq-eqb (row_of s n).first.0 0 f))
      by_place false e =
          let l : rows_before t n < length t / 5 =
          let h = eqb-false (rows_before t n) (length t / 5) e in
          let m = first_to (has_row t n) 0 (length t / 5) in
          omega (arith, h) in
          there (rw (index-whole s, e)) (rw (a, ne_eqb (row_of s n).first.0 0 (found-has-first s a n l)))
          (row-found s a n l)

  -- a part from the row is the part that is found
  part_same : (from : Row → PartAnswer)
      → part_by_index t n (from (row_in t (rows_before t n))) ≡ part_found (judge_of s) (row_of s n) (from (row_of s n))
  unfolding part_found
  part_same from = by_row either
    where
      by_row : Either
          → part_by_index t n (from (row_in t (rows_before t n))) ≡ part_found (judge_of s) (row_of s n) (from (row_of s n))
      by_row (there e f x) = rw (e, f, x) refl
      by_row (nowhere e f) = rw (e, f) refl

pub same-value : SameValue
unfolding value_by_index value_found
same-value s a n section line column = by_row (either s a n) ∙ sym (value-by-row s n section line column)
  where
    by_row : Either s a n
        → value_by_index s (index_of s) n section line column
        ≡ value_found (judge_of s) (row_of s n) (value_from_row s (row_of s n) section line column)
    by_row (there e f x) = rw (e, f, x) refl
    by_row (nowhere e f) = rw (e, f) refl

pub same-heading : SameHeading
unfolding heading_by_index
same-heading s a n section column =
    part_same s a n (λ (x : Row). heading_from_row s x section column) ∙ sym (heading-by-row s n section column)

pub same-unit : SameUnit
unfolding unit_by_index
same-unit s a n section column =
    part_same s a n (λ (x : Row). unit_from_row s x section column) ∙ sym (unit-by-row s n section column)

pub same-passage : SamePassage
unfolding passage_by_index
same-passage s a n keyword pointer =
    part_same s a n (λ (x : Row). passage_from_row s x keyword pointer) ∙ sym (passage-by-row s n keyword pointer)
