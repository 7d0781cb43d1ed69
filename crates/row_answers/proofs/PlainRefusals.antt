-- THE THEOREMS: a question to any bytes by any row meets exactly the refusal that is said plainly.
-- Assumes nothing.
use Prim.Native.Nat.{ℕ}
use mathlib.Core.Path.{◌≡◌, refl, sym, ap, ◌∙◌}
use mathlib.Core.Bool.{Bool, true, false, not, ◌&&◌}
use mathlib.Core.List.{List, [], ◌∷◌, ◌++◌}
use mathlib.Core.Logic.{◌↔◌}
use native.Mathlib.Omega.{arith}
use lib.Dec.{eqb}
use borrow.Author.Tests.{ne_eqb}
use Rattle.laws.proofs.Booleans.{differ}
use Rattle.paper_number.specs.Digits.{field_read}
use Rattle.paper_number.specs.declared.types.FieldRead.{FieldRead}
use Rattle.paper_number.specs.declared.types.Reading.TheVariants.{Blank}
use Rattle.paper_record.specs.Places.{place_of}
use Rattle.paper_record.specs.Text.{within}
use Rattle.paper_record.specs.Word.{pointer_of}
use Rattle.paper_record.specs.declared.types.LineNo.{LineNo}
use Rattle.paper_record.specs.declared.types.Place.{Place}
use Rattle.paper_record.specs.declared.types.RecordNo.{RecordNo}
use Rattle.paper_record.proofs.Within.{within-bounds}
use Rattle.paper_entry.specs.Answer.{Refusal, refusal, first_of}
use Rattle.paper_questions.specs.declared.types.Row.{Row}
use Rattle.paper_questions.specs.declared.types.Shape.{Shape}
use Rattle.paper_questions.specs.Place.{shape_of, heading_place, unit_place, field_of, byte_of}
use Rattle.paper_questions.specs.Refused.{section_in}
use Rattle.paper_index.specs.Reads.{good_value, good_heading, good_unit, table_identifier, read_refusals}
use Rattle.paper_index.specs.TableAnswers.{value_beside, part_beside, value_from_row, heading_from_row, unit_from_row}
use Rattle.row_answers.specs.Plain.{ValueRead, HeadingRead, UnitRead}
use Rattle.row_answers.specs.Refusals.{TableGood, TableRefused, OneOf, HeadingRefused, UnitRefused, with_zeros, empty_with}
use Rattle.row_answers.specs.Refusals.{ValueRefused, value_table, value_line, value_column, value-field}
use Rattle.row_answers.specs.Refusals.{ColumnRefused, column_table, column_none, column_field}
use Rattle.row_answers.specs.Refusals.{ValueRefusedExactly, HeadingRefusedExactly, UnitRefusedExactly}
use Rattle.row_answers.specs.Refusals.{ValueRefusedSays, HeadingRefusedSays, UnitRefusedSays}
use Rattle.row_answers.proofs.PlainAnswers.{part-number, within-true}
use Rattle.row_answers.proofs.PlainAnswers.{value-read-exactly, heading-read-exactly, unit-read-exactly}
use Rattle.row_answers.proofs.RefusedReads.{Reads, refused, both-good, reads_of, of-both, of-refused, read_some}
use Rattle.row_answers.proofs.RefusedReads.{shape-of, table-means}

-- ---- a line or a column that the table has, or has not

one_of : (most n : ℕ) → within 1 most n ≡ true → OneOf most n
one_of most n e = let (from, to) = within-bounds 1 most n e in record { from = from; to = to }

of_one : {most n : ℕ} → OneOf most n → within 1 most n ≡ true
of_one {most} {n} o = within-true 1 most n o.from o.to

of_none : (most n : ℕ) → (OneOf most n → ⊥) → within 1 most n ≡ false
of_none most n h = by-test (within 1 most n) refl
  where
    by-test : (p : Bool) → within 1 most n ≡ p → p ≡ false
    by-test true e = absurd (h (one_of most n e))
    by-test false e = refl

-- ---- what stands beside a refusal

blank-beside : (number : ℕ) (field : FieldRead) → eqb number 0 ≡ false
    → value_beside number field ≡ record { answer = with_zeros number; value = Blank; digits = 0 }
blank-beside number field e = rw e

empty-beside : (s : List ℕ) (number from bytes pointer : ℕ) → eqb number 0 ≡ false
    → part_beside s number from bytes pointer ≡ empty_with number
empty-beside s number from bytes pointer e = rw e

module _ (s : List ℕ) (x : Row) (section : ℕ) where
  abbrev at : RecordNo
  at = section_in x section

  abbrev shape : Shape
  shape = shape_of s section at

  -- the number, by what is looked at behind the section's record
  abbrev number_of : List Refusal → ℕ
  number_of ys = first_of (read_refusals s x at (table_identifier section) ++ ys)

  abbrev ReadsOf : List Refusal → ℕ → Type 0
  ReadsOf ys number = Reads s x at (table_identifier section) _ _ (table-means s x section) ys number

  table-reads : (ys : List Refusal) (number : ℕ) → number_of ys ≡ number → ReadsOf ys number
  table-reads = reads_of s x at (table_identifier section) _ _ (table-means s x section)

  of-table-good : (ys : List Refusal) → TableGood s x section → number_of ys ≡ first_of ys
  of-table-good = of-both s x at (table_identifier section) _ _ (table-means s x section)

  of-table-refused : (ys : List Refusal) {number : ℕ} → TableRefused s x section number → number_of ys ≡ number
  of-table-refused ys r = of-refused s x at (table_identifier section) _ _ (table-means s x section) ys r

  -- ---- a value

  module _ (line : LineNo) (column : ℕ) where
    abbrev place : Place
    place = place_of at shape.columns line column

    abbrev good : Bool
    good = good_value s section place (field_read (field_of s place)).reading

    -- in a table of so many lines and columns
    abbrev last : ℕ → ℕ → List Refusal
    last lines columns =
        refusal 34 (not (within 1 lines line.0)) ∷ refusal 35 (not (within 1 columns column))
        ∷ refusal 39 (not good) ∷ []

    abbrev shown : List Refusal
    shown = last shape.lines shape.columns

    value-number : (value_from_row s x section line column).answer.number ≡ number_of shown
    unfolding value_from_row
    value-number = refl

    in_table : (t : TableGood s x section) → first_of shown ≡ first_of (last t.lines t.columns)
    in_table t = rw ((shape-of s x section t).lines_are, (shape-of s x section t).columns-are)

    of-value-refused : {number : ℕ} → ValueRefused s x section line column number → number_of shown ≡ number
    of-value-refused (value_table number r) = of-table-refused shown r
    of-value-refused (value_line t h) =
        of-table-good shown t ∙ (in_table t ∙ rw (of_none t.lines line.0 h))
    of-value-refused (value_column t l h) =
        let inside : within 1 t.lines line.0 ≡ true = of_one l in
        of-table-good shown t ∙ (in_table t ∙ rw (inside, of_none t.columns column h))
    of-value-refused (value-field t l c h) = of-table-good shown t ∙ (in_table t ∙ by-test good refl)
      where
        by-test : (g : Bool) → good ≡ g → first_of (last t.lines t.columns) ≡ 39
        by-test true e =
            let none : first_of (last t.lines t.columns) ≡ 0 = rw (of_one l, of_one c, e) in
            absurd
            (h
            ((value-read-exactly s x section line column).0
            (value-number ∙ (of-table-good shown t ∙ (in_table t ∙ none)))))
        by-test false e = rw (of_one l, of_one c, e)

    value-refused : (number : ℕ) → (number ≡ 0 → ⊥) → (value_from_row s x section line column).answer.number ≡ number
        → ValueRefused s x section line column number
    value-refused number some e = by-reads (table-reads shown number (sym value-number ∙ e))
      where
        not-read : ValueRead s x section line column → ⊥
        not-read v = some (sym e ∙ (value-read-exactly s x section line column).1 v)

        by_tests : (t : TableGood s x section) → (l : Bool) → within 1 t.lines line.0 ≡ l
            → (c : Bool) → within 1 t.columns column ≡ c → (g : Bool)
            → first_of (refusal 34 (not l) ∷ refusal 35 (not c) ∷ refusal 39 (not g) ∷ []) ≡ number
            → ValueRefused s x section line column number
        by_tests t false l c k g z = rw (← z) (value_line t (λ o. differ (sym (of_one o) ∙ l)))
        by_tests t true l false k g z =
            rw (← z) (value_column t (one_of t.lines line.0 l) (λ o. differ (sym (of_one o) ∙ k)))
        by_tests t true l true k false z =
            rw (← z) (value-field t (one_of t.lines line.0 l) (one_of t.columns column k) not-read)
        by_tests t true l true k true z = absurd (some (sym z))

        by-reads : ReadsOf shown number → ValueRefused s x section line column number
        by-reads (refused r) = value_table number r
        by-reads (both-good t z) =
            by_tests t (within 1 t.lines line.0) refl (within 1 t.columns column) refl good
            (sym (in_table t) ∙ z)

    value-some : {number : ℕ} → ValueRefused s x section line column number → number ≡ 0 → ⊥
    value-some (value_table number r) z = read_some s x _ _ r z
    value-some (value_line t h) z = omega arith
    value-some (value_column t l h) z = omega arith
    value-some (value-field t l c h) z = omega arith

    value-says : (number : ℕ) → ValueRefused s x section line column number
        → value_from_row s x section line column ≡ record { answer = with_zeros number; value = Blank; digits = 0 }
    unfolding value_from_row
    value-says number r =
        ap (λ (n : ℕ). value_beside n (field_read (field_of s place))) (of-value-refused r)
        ∙ blank-beside number (field_read (field_of s place)) (ne_eqb number 0 (value-some r))

  -- ---- a heading or a unit

  module _ (column : ℕ) (good : Bool) where
    abbrev rest : ℕ → List Refusal
    rest columns = refusal 35 (not (within 1 columns column)) ∷ refusal 39 (not good) ∷ []

    abbrev said : ℕ
    said = number_of (rest shape.columns)

    in-columns : (t : TableGood s x section) → first_of (rest shape.columns) ≡ first_of (rest t.columns)
    in-columns t = rw (shape-of s x section t).columns-are

    module _ (Asked : Type 0) (exactly : (said ≡ 0) ↔ Asked) where
      of-column-refused : {number : ℕ} → ColumnRefused s x section column Asked number → said ≡ number
      of-column-refused (column_table number r) = of-table-refused (rest shape.columns) r
      of-column-refused (column_none t h) =
          of-table-good (rest shape.columns) t ∙ (in-columns t ∙ rw (of_none t.columns column h))
      of-column-refused (column_field t c h) =
          of-table-good (rest shape.columns) t ∙ (in-columns t ∙ by-test good refl)
        where
          by-test : (g : Bool) → good ≡ g → first_of (rest t.columns) ≡ 39
          by-test true e =
              let none : first_of (rest t.columns) ≡ 0 = rw (of_one c, e) in
              absurd (h (exactly.0 (of-table-good (rest shape.columns) t ∙ (in-columns t ∙ none))))
          by-test false e = rw (of_one c, e)

      column-refused : (number : ℕ) → (number ≡ 0 → ⊥) → said ≡ number
          → ColumnRefused s x section column Asked number
      column-refused number some e = by-reads (table-reads (rest shape.columns) number e)
        where
          not-read : Asked → ⊥
          not-read v = some (sym e ∙ exactly.1 v)

          by_tests : (t : TableGood s x section) → (c : Bool) → within 1 t.columns column ≡ c → (g : Bool)
              → first_of (refusal 35 (not c) ∷ refusal 39 (not g) ∷ []) ≡ number
              → ColumnRefused s x section column Asked number
          by_tests t false k g z = rw (← z) (column_none t (λ o. differ (sym (of_one o) ∙ k)))
          by_tests t true k false z = rw (← z) (column_field t (one_of t.columns column k) not-read)
          by_tests t true k true z = absurd (some (sym z))

          by-reads : ReadsOf (rest shape.columns) number → ColumnRefused s x section column Asked number
          by-reads (refused r) = column_table number r
          by-reads (both-good t z) =
              by_tests t (within 1 t.columns column) refl good (sym (in-columns t) ∙ z)

      column-some : {number : ℕ} → ColumnRefused s x section column Asked number → number ≡ 0 → ⊥
      column-some (column_table number r) z = read_some s x _ _ r z
      column-some (column_none t h) z = omega arith
      column-some (column_field t c h) z = omega arith

      column-says : (from bytes pointer number : ℕ) → ColumnRefused s x section column Asked number
          → part_beside s said from bytes pointer ≡ empty_with number
      column-says from bytes pointer number r =
          ap (λ (n : ℕ). part_beside s n from bytes pointer) (of-column-refused r)
          ∙ empty-beside s number from bytes pointer (ne_eqb number 0 (column-some r))

  module _ (column : ℕ) where
    abbrev heading : Place
    heading = heading_place at column

    abbrev unit : Place
    unit = unit_place at shape.columns column

    abbrev heading-good : Bool
    heading-good = good_heading s heading

    abbrev unit-good : Bool
    unit-good = good_heading s heading && good_unit s unit

    heading-number : (heading_from_row s x section column).answer.number ≡ said column heading-good
    unfolding heading_from_row
    heading-number = part-number s _ _ 10 _

    unit-number : (unit_from_row s x section column).answer.number ≡ said column unit-good
    unfolding unit_from_row
    unit-number = part-number s _ _ 10 _

    heading-exactly : (said column heading-good ≡ 0) ↔ HeadingRead s x section column
    heading-exactly =
        let e = heading-read-exactly s x section column in
        (λ z. e.0 (heading-number ∙ z), λ h. sym heading-number ∙ e.1 h)

    unit-exactly : (said column unit-good ≡ 0) ↔ UnitRead s x section column
    unit-exactly =
        let e = unit-read-exactly s x section column in
        (λ z. e.0 (unit-number ∙ z), λ u. sym unit-number ∙ e.1 u)

    heading-refused : (number : ℕ)
        → ((number ≡ 0 → ⊥) × ((heading_from_row s x section column).answer.number ≡ number))
        ↔ HeadingRefused s x section column number
    heading-refused number = (
      λ z. column-refused column heading-good _ heading-exactly number z.0 (sym heading-number ∙ z.1),
      λ r. (
        column-some column heading-good _ heading-exactly r,
        heading-number ∙ of-column-refused column heading-good _ heading-exactly r,
      ),
    )

    unit-refused : (number : ℕ)
        → ((number ≡ 0 → ⊥) × ((unit_from_row s x section column).answer.number ≡ number))
        ↔ UnitRefused s x section column number
    unit-refused number = (
      λ z. column-refused column unit-good _ unit-exactly number z.0 (sym unit-number ∙ z.1),
      λ r. (
        column-some column unit-good _ unit-exactly r,
        unit-number ∙ of-column-refused column unit-good _ unit-exactly r,
      ),
    )

    heading-says : (number : ℕ) → HeadingRefused s x section column number
        → heading_from_row s x section column ≡ empty_with number
    unfolding heading_from_row
    heading-says = column-says column heading-good _ heading-exactly (byte_of heading) 10 (pointer_of (field_of s heading))

    unit-says : (number : ℕ) → UnitRefused s x section column number
        → unit_from_row s x section column ≡ empty_with number
    unfolding unit_from_row
    unit-says = column-says column unit-good _ unit-exactly (byte_of unit) 10 (pointer_of (field_of s heading))

pub value-refused-exactly : ValueRefusedExactly
value-refused-exactly s x section line column number = (
  λ z. value-refused s x section line column number z.0 z.1,
  λ r. (
    value-some s x section line column r,
    value-number s x section line column ∙ of-value-refused s x section line column r,
  ),
)

pub value-refused-says : ValueRefusedSays
value-refused-says = value-says

pub heading-refused-exactly : HeadingRefusedExactly
heading-refused-exactly = heading-refused

pub heading-refused-says : HeadingRefusedSays
heading-refused-says = heading-says

pub unit-refused-exactly : UnitRefusedExactly
unit-refused-exactly = unit-refused

pub unit-refused-says : UnitRefusedSays
unit-refused-says = unit-says
