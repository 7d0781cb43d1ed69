-- A value from a row: each of its answers, by the first read that is not good.
-- Assumes nothing.
use Prim.Native.Nat.{ℕ}
use mathlib.Core.Path.{◌≡◌, refl, sym, ap, ◌∙◌}
use mathlib.Core.Bool.{Bool, true, false, not}
use mathlib.Core.List.{List, [], ◌∷◌, ◌++◌}
use borrow.Author.Tests.{ne_eqb}
use Rattle.paper_number.specs.declared.types.FieldRead.{FieldRead}
use Rattle.paper_number.specs.Digits.{field_read}
use Rattle.paper_record.specs.Text.{within}
use Rattle.paper_record.specs.Places.{place_of}
use Rattle.paper_record.specs.declared.types.RecordNo.{RecordNo}
use Rattle.paper_record.specs.declared.types.LineNo.{LineNo}
use Rattle.paper_record.specs.declared.types.Place.{Place}
use Rattle.paper_entry.specs.Answer.{Refusal, refusal, first_of}
use Rattle.paper_questions.specs.declared.types.Row.{Row}
use Rattle.paper_questions.specs.declared.types.Shape.{Shape}
use Rattle.paper_questions.specs.Place.{shape_of, field_of}
use Rattle.paper_questions.specs.Refused.{section_in, no_line, no_column}
use Rattle.paper_index.specs.Reads.{read_refusals, table_identifier, good_value}
use Rattle.paper_index.specs.TableAnswers.{value_beside, value_from_row}
use Rattle.paper_index.specs.ByIndex.{refused_value}
use Rattle.paper_index.proofs.ReadsInOrder.{read_none, read_first}

refused-beside : (n : ℕ) (field : FieldRead) → (n ≡ 0 → ⊥) → refused_value n ≡ value_beside n field
refused-beside n field h = rw (ne_eqb n 0 h) refl

module _ (s : List ℕ) (x : Row) (section : ℕ) (line : LineNo) (column : ℕ) where
  abbrev at : RecordNo
  at = section_in x section

  abbrev read : ℕ
  read = first_of (read_refusals s x at (table_identifier section))

  abbrev place : Shape → Place
  place shape = place_of at shape.columns line column

  abbrev field : Shape → FieldRead
  field shape = field_read (field_of s (place shape))

  -- the read of the value's own field
  abbrev last : Shape → List Refusal
  last shape = refusal 39 (not (good_value s section (place shape) (field shape).reading)) ∷ []

  abbrev later : Shape → List Refusal
  later shape = refusal 34 (no_line shape line) ∷ refusal 35 (no_column shape column) ∷ last shape

  abbrev whole : Shape → ℕ
  whole shape = first_of (read_refusals s x at (table_identifier section) ++ later shape)

  by_number : value_from_row s x section line column
      ≡ value_beside (whole (shape_of s section at)) (field (shape_of s section at))
  unfolding value_from_row
  by_number = refl

  pub refused-by-read : (n : ℕ) → n ≡ read → (n ≡ 0 → ⊥) → refused_value n ≡ value_from_row s x section line column
  refused-by-read n e h =
      let shape = shape_of s section at in
      refused-beside n (field shape) h
      ∙ ap (λ (m : ℕ). value_beside m (field shape))
      (e ∙ sym (read_first s x at (table_identifier section) (later shape) (λ z. h (e ∙ z))))
      ∙ sym by_number

  -- the row's two records are good: line, column and field decide
  module _ (good : read ≡ 0) (shape : Shape) (is : shape ≡ shape_of s section at) where
    left : value_from_row s x section line column ≡ value_beside (first_of (later shape)) (field shape)
    left =
        by_number ∙ rw (← is)
        (ap (λ (m : ℕ). value_beside m (field shape)) (read_none s x at (table_identifier section) (later shape) good))

    pub refused-by-line : within 1 shape.lines line.0 ≡ false
        → refused_value 34 ≡ value_from_row s x section line column
    refused-by-line l = sym (left ∙ rw l refl)

    pub refused-by-column : within 1 shape.lines line.0 ≡ true → within 1 shape.columns column ≡ false
        → refused_value 35 ≡ value_from_row s x section line column
    refused-by-column l k = sym (left ∙ rw (l, k) refl)

    pub by_field : within 1 shape.lines line.0 ≡ true → within 1 shape.columns column ≡ true
        → value_beside (first_of (last shape)) (field shape) ≡ value_from_row s x section line column
    by_field l k = sym (left ∙ rw (l, k) refl)
