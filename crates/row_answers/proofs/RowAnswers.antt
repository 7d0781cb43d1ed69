-- THE THEOREMS: a value, a heading and a unit of any bytes are answered from the row of their subentry, by the definition
-- that a question by an index has. So of the row of an accepted entry 39 is never given.
-- Assumes nothing.
use Prim.Native.Nat.{ℕ, ◌-◌, ◌≤◌}
use mathlib.Core.Path.{◌≡◌, refl, sym, ap, subst, ◌∙◌}
use mathlib.Core.Bool.{Bool, true, false, cond, not, ◌&&◌}
use mathlib.Core.List.{List, [], ◌∷◌, ◌++◌}
use native.Mathlib.Omega.{arith}
use lib.Dec.{eqb}
use borrow.Author.Tests.{eqb-true, eqb-false, ne_eqb}
use Rattle.paper_number.specs.declared.types.FieldRead.{FieldRead}
use Rattle.paper_number.specs.Digits.{field_read}
use Rattle.paper_record.specs.Places.{place_of}
use Rattle.paper_record.specs.Word.{pointer_of}
use Rattle.paper_record.specs.declared.types.LineNo.{LineNo}
use Rattle.paper_record.specs.declared.types.Place.{Place}
use Rattle.paper_record.specs.declared.types.RecordNo.{RecordNo}
use Rattle.paper_entry.specs.declared.types.Verdict.{Verdict}
use Rattle.paper_entry.specs.Judging.{judge_of, Accepted}
use Rattle.paper_entry.specs.Answer.{Refusal, refusal, first_of}
use Rattle.paper_questions.specs.declared.types.Row.{Row}
use Rattle.paper_questions.specs.declared.types.Shape.{Shape}
use Rattle.paper_questions.specs.Located.{row_of}
use Rattle.paper_questions.specs.Place.{shape_of, heading_place, unit_place, field_of, byte_of}
use Rattle.paper_questions.specs.Refused.{is_subent, section_in, no_section, no_line, no_column, section_refusals, InShape}
use Rattle.paper_questions.specs.Refused.{value_refusal, column_refusal}
use Rattle.paper_questions.specs.ValueAnswers.{value_with, value_by}
use Rattle.paper_questions.specs.PartAnswers.{part_with, heading_by, unit_by}
use Rattle.paper_questions.specs.Ask.{value_asked, heading_asked, unit_asked}
use Rattle.paper_questions.proofs.InOrder.{value-inside, column-inside}
use Rattle.paper_questions.proofs.RowChanges.{opener}
use Rattle.inside.proofs.RowFound.{Opening}
use Rattle.inside.proofs.Answered.{section_no, section_of, shape-columns, shape-lines}
use Rattle.inside.proofs.NotRefused.{asked_of}
use Rattle.inside.proofs.Asked.{section-named}
use Rattle.paper_index.specs.Reads.{read_refusals, table_identifier, good_section, good_value, good_heading, good_unit}
use Rattle.paper_index.specs.TableAnswers.{value_beside, part_beside, value_from_row, heading_from_row, unit_from_row}
use Rattle.paper_index.specs.Asked.{value_found, part_found}
use Rattle.paper_index.specs.Claims.{ValueByRow, HeadingByRow, UnitByRow}
use Rattle.row_answers.proofs.FirstRecord.{none-there}
use Rattle.row_answers.proofs.RowReads.{section-good, reads_at}
use Rattle.row_answers.proofs.ReadFields.{value_read, heading-read, unit-read}

-- ---- refusals in their order

-- a last one that is not given where none before it is
last-dropped : (xs : List Refusal) (number : ℕ) (b : Bool) → (first_of xs ≡ 0 → b ≡ false)
    → first_of (xs ++ (refusal number b ∷ [])) ≡ first_of xs
last-dropped [] number b h = rw (h refl)
last-dropped (x ∷ xs) number b h = by-test x.given h (last-dropped xs number b)
  where
    by-test : (g : Bool) → (cond g x.number (first_of xs) ≡ 0 → b ≡ false)
        → ((first_of xs ≡ 0 → b ≡ false) → first_of (xs ++ (refusal number b ∷ [])) ≡ first_of xs)
        → cond g x.number (first_of (xs ++ (refusal number b ∷ []))) ≡ cond g x.number (first_of xs)
    by-test true h later = refl
    by-test false h later = later h

-- none of these is 31
not-31 : (a b c d : Bool)
    → first_of (refusal 32 a ∷ refusal 33 b ∷ refusal 34 c ∷ refusal 35 d ∷ []) ≡ 31 → ⊥
not-31 true b c d e = omega arith
not-31 false true c d e = omega arith
not-31 false false true d e = omega arith
not-31 false false false true e = omega arith
not-31 false false false false e = omega arith

-- beside another number than 31 stand zeros
value-zeros : (v : Verdict) (number : ℕ) (field : FieldRead) → (number ≡ 31 → ⊥)
    → value_with v number field ≡ value_beside number field
value-zeros v number field h = rw (ne_eqb number 31 h)

part-zeros : (s : List ℕ) (v : Verdict) (number from bytes pointer : ℕ) → (number ≡ 31 → ⊥)
    → part_with s v number from bytes pointer ≡ part_beside s number from bytes pointer
part-zeros s v number from bytes pointer h = rw (ne_eqb number 31 h)

identifier-of : (section : ℕ) (b : Bool) → section ≡ section_no b → opener (section_of b) ≡ table_identifier section
identifier-of section true e = rw e
identifier-of section false e = rw e

-- ---- the asked fields are good: of COMMON, where b is false, and of DATA

module _ (s : List ℕ) (accepted : Accepted s) (n : ℕ) (b : Bool) (a : ℕ) (o : Opening s n (section_of b) a) where
  abbrev own : RecordNo
  own = section_in (row_of s n) (section_no b)

  abbrev shape-own : Shape
  shape-own = shape_of s (section_no b) own

  value-own : (line : LineNo) (column : ℕ) → InShape shape-own line column
      → good_value s (section_no b) (place_of own shape-own.columns line column)
      (field_read (field_of s (place_of own shape-own.columns line column))).reading
      ≡ true
  value-own line column i =
      let c = shape-columns s accepted n b a o in
      let l = shape-lines s accepted n b a o in
      rw c
      (value_read s accepted n b a o column i.column_from (rw c at i.column_to) line i.line_from
      (rw l at i.line_to))

  heading-own : (column : ℕ) → 1 ≤ column → column ≤ shape-own.columns → good_heading s (heading_place own column) ≡ true
  heading-own column from to =
      heading-read s accepted n b a o column from (rw (shape-columns s accepted n b a o) at to)

  unit-own : (column : ℕ) → 1 ≤ column → column ≤ shape-own.columns
      → good_unit s (unit_place own shape-own.columns column) ≡ true
  unit-own column from to =
      let c = shape-columns s accepted n b a o in
      rw c (unit-read s accepted n b a o column from (rw c at to))

-- ---- in an accepted entry that has the subentry

module _ (s : List ℕ) (accepted : Accepted s) (n : ℕ) (some : (row_of s n).first.0 ≡ 0 → ⊥) (section : ℕ) where
  abbrev x : Row
  x = row_of s n

  abbrev at : RecordNo
  at = section_in x section

  abbrev shape : Shape
  shape = shape_of s section at

  table-good : (at.0 ≡ 0 → ⊥) → good_section s at (table_identifier section) ≡ true
  table-good there =
      let (b, (e, o)) = section-named s n section accepted there in
      subst (λ (k : ℕ). good_section s at k ≡ true) (identifier-of section b e)
      (section-good s accepted n (section_of b) (at.0 - 1) o at (omega (arith, there)))

  table-reads : (ys : List Refusal)
      → first_of (read_refusals s x at (table_identifier section) ++ ys)
      ≡ first_of (section_refusals s (judge_of s) x at ++ ys)
  table-reads = reads_at s accepted n some at (table_identifier section) table-good

  -- ---- values

  module _ (line : LineNo) (column : ℕ) where
    abbrev place : Place
    place = place_of at shape.columns line column

    abbrev field : FieldRead
    field = field_read (field_of s place)

    abbrev bad : Bool
    bad = not (good_value s section place field.reading)

    abbrev lines : List Refusal
    lines = refusal 34 (no_line shape line) ∷ refusal 35 (no_column shape column) ∷ []

    value-good : (at.0 ≡ 0 → ⊥) → InShape shape line column → good_value s section place field.reading ≡ true
    value-good there i =
        let (b, (e, o)) = section-named s n section accepted there in
        rw e (value-own s accepted n b (at.0 - 1) o line column (rw e at i))

    value_same : value_refusal s (judge_of s) x at shape line column
        ≡ first_of (read_refusals s x at (table_identifier section) ++ (lines ++ (refusal 39 bad ∷ [])))
    unfolding value_refusal
    value_same =
        sym
        (table-reads (lines ++ (refusal 39 bad ∷ []))
        ∙ last-dropped (section_refusals s (judge_of s) x at ++ lines) 39 bad
        (λ z.
        let there = (asked_of s x at lines z).some in
        rw (value-good there (value-inside s (judge_of s) x at shape line column z))))

    value-not-31 : value_refusal s (judge_of s) x at shape line column ≡ 31 → ⊥
    unfolding value_refusal
    value-not-31 e =
        not-31 (not (is_subent s x)) (no_section at) (no_line shape line) (no_column shape column) (rw accepted at e)

    value-from-row : value_with (judge_of s) (value_refusal s (judge_of s) x at shape line column) field
        ≡ value_from_row s x section line column
    unfolding value_from_row
    value-from-row =
        value-zeros (judge_of s) _ field value-not-31 ∙ ap (λ (number : ℕ). value_beside number field) value_same

  -- ---- headings and units

  module _ (column : ℕ) where
    abbrev columns : List Refusal
    columns = refusal 35 (no_column shape column) ∷ []

    -- where the column is there, a last test that is then false
    column-same : (last : Bool) → ((at.0 ≡ 0 → ⊥) → 1 ≤ column → column ≤ shape.columns → last ≡ false)
        → column_refusal s (judge_of s) x at shape column
        ≡ first_of (read_refusals s x at (table_identifier section) ++ (columns ++ (refusal 39 last ∷ [])))
    unfolding column_refusal
    column-same last h =
        sym
        (table-reads (columns ++ (refusal 39 last ∷ []))
        ∙ last-dropped (section_refusals s (judge_of s) x at ++ columns) 39 last
        (λ z.
        let there = (asked_of s x at columns z).some in
        let (from, to) = column-inside s (judge_of s) x at shape column z in
        h there from to))

    column-not-31 : column_refusal s (judge_of s) x at shape column ≡ 31 → ⊥
    unfolding column_refusal
    column-not-31 e = not-31 (not (is_subent s x)) (no_section at) false (no_column shape column) (rw accepted at e)

    heading-good : (at.0 ≡ 0 → ⊥) → 1 ≤ column → column ≤ shape.columns
        → good_heading s (heading_place at column) ≡ true
    heading-good there from to =
        let (b, (e, o)) = section-named s n section accepted there in
        rw e (heading-own s accepted n b (at.0 - 1) o column from (rw e at to))

    unit-good : (at.0 ≡ 0 → ⊥) → 1 ≤ column → column ≤ shape.columns
        → good_unit s (unit_place at shape.columns column) ≡ true
    unit-good there from to =
        let (b, (e, o)) = section-named s n section accepted there in
        rw e (unit-own s accepted n b (at.0 - 1) o column from (rw e at to))

    heading-from-row : part_with s (judge_of s) (column_refusal s (judge_of s) x at shape column)
        (byte_of (heading_place at column)) 10 (pointer_of (field_of s (heading_place at column)))
        ≡ heading_from_row s x section column
    unfolding heading_from_row
    heading-from-row =
        part-zeros s (judge_of s) _ _ 10 _ column-not-31
        ∙ ap (λ (number : ℕ). part_beside s number (byte_of (heading_place at column)) 10
        (pointer_of (field_of s (heading_place at column))))
        (column-same (not (good_heading s (heading_place at column))) (λ there from to. rw (heading-good there from to)))

    unit-from-row : part_with s (judge_of s) (column_refusal s (judge_of s) x at shape column)
        (byte_of (unit_place at shape.columns column)) 10 (pointer_of (field_of s (heading_place at column)))
        ≡ unit_from_row s x section column
    unfolding unit_from_row
    unit-from-row =
        part-zeros s (judge_of s) _ _ 10 _ column-not-31
        ∙ ap (λ (number : ℕ). part_beside s number (byte_of (unit_place at shape.columns column)) 10
        (pointer_of (field_of s (heading_place at column))))
        (column-same
        (not (good_heading s (heading_place at column) && good_unit s (unit_place at shape.columns column)))
        (λ there from to. rw (heading-good there from to, unit-good there from to)))

-- ---- of any bytes: refused, without the subentry, or answered

module _ (s : List ℕ) (n section : ℕ) (line : LineNo) (column : ℕ) where
  abbrev SameValue : Type 0
  SameValue =
      value_asked s n section line column
      ≡ value_found (judge_of s) (row_of s n) (value_from_row s (row_of s n) section line column)

  value-refused : eqb (judge_of s).refusal 0 ≡ false → SameValue
  unfolding value_asked value_by value_refusal value_found
  value-refused p = rw p

  value-absent : eqb (judge_of s).refusal 0 ≡ true → eqb (row_of s n).first.0 0 ≡ true → SameValue
  unfolding value_asked value_by value_refusal value_found
  value-absent p q = rw (p, q, none-there s (row_of s n) (eqb-true _ 0 q))

  value_there : eqb (judge_of s).refusal 0 ≡ true → eqb (row_of s n).first.0 0 ≡ false → SameValue
  unfolding value_asked value_by value_found
  value_there p q =
      rw (p, q) (value-from-row s (eqb-true _ 0 p) n (eqb-false _ 0 q) section line column)

  value-whole : (p : Bool) → eqb (judge_of s).refusal 0 ≡ p → (q : Bool) → eqb (row_of s n).first.0 0 ≡ q → SameValue
  value-whole false p q u = value-refused p
  value-whole true p true u = value-absent p u
  value-whole true p false u = value_there p u

module _ (s : List ℕ) (n section column : ℕ) where
  abbrev SameHeading : Type 0
  SameHeading =
      heading_asked s n section column
      ≡ part_found (judge_of s) (row_of s n) (heading_from_row s (row_of s n) section column)

  abbrev SameUnit : Type 0
  SameUnit =
      unit_asked s n section column ≡ part_found (judge_of s) (row_of s n) (unit_from_row s (row_of s n) section column)

  heading-refused : eqb (judge_of s).refusal 0 ≡ false → SameHeading
  unfolding heading_asked heading_by column_refusal part_found
  heading-refused p = rw p

  heading-absent : eqb (judge_of s).refusal 0 ≡ true → eqb (row_of s n).first.0 0 ≡ true → SameHeading
  unfolding heading_asked heading_by column_refusal part_found
  heading-absent p q = rw (p, q, none-there s (row_of s n) (eqb-true _ 0 q))

  heading-there : eqb (judge_of s).refusal 0 ≡ true → eqb (row_of s n).first.0 0 ≡ false → SameHeading
  unfolding heading_asked heading_by part_found
  heading-there p q = rw (p, q) (heading-from-row s (eqb-true _ 0 p) n (eqb-false _ 0 q) section column)

  heading-whole : (p : Bool) → eqb (judge_of s).refusal 0 ≡ p → (q : Bool) → eqb (row_of s n).first.0 0 ≡ q
      → SameHeading
  heading-whole false p q u = heading-refused p
  heading-whole true p true u = heading-absent p u
  heading-whole true p false u = heading-there p u

  unit-refused : eqb (judge_of s).refusal 0 ≡ false → SameUnit
  unfolding unit_asked unit_by column_refusal part_found
  unit-refused p = rw p

  unit-absent : eqb (judge_of s).refusal 0 ≡ true → eqb (row_of s n).first.0 0 ≡ true → SameUnit
  unfolding unit_asked unit_by column_refusal part_found
  unit-absent p q = rw (p, q, none-there s (row_of s n) (eqb-true _ 0 q))

  unit-there : eqb (judge_of s).refusal 0 ≡ true → eqb (row_of s n).first.0 0 ≡ false → SameUnit
  unfolding unit_asked unit_by part_found
  unit-there p q = rw (p, q) (unit-from-row s (eqb-true _ 0 p) n (eqb-false _ 0 q) section column)

  unit-whole : (p : Bool) → eqb (judge_of s).refusal 0 ≡ p → (q : Bool) → eqb (row_of s n).first.0 0 ≡ q → SameUnit
  unit-whole false p q u = unit-refused p
  unit-whole true p true u = unit-absent p u
  unit-whole true p false u = unit-there p u

pub value-by-row : ValueByRow
value-by-row s n section line column = value-whole s n section line column _ refl _ refl

pub heading-by-row : HeadingByRow
heading-by-row s n section column = heading-whole s n section column _ refl _ refl

pub unit-by-row : UnitByRow
unit-by-row s n section column = unit-whole s n section column _ refl _ refl
