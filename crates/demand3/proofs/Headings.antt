-- Every question about a heading or a unit has the same answer in the copy.
-- Assumes nothing.
use Prim.Native.Nat.{ℕ, zero, suc, ◌+◌, ◌*◌, ◌-◌, ◌/◌, ◌≤◌}
use mathlib.Core.Path.{◌≡◌, refl}
use mathlib.Core.Bool.{Bool, true, false, not}
use mathlib.Core.List.{List, [], ◌∷◌, ◌++◌}
use native.Mathlib.Omega.{arith}
use native.Mathlib.Nat.{suc-mul, zero-mul}
use lib.Dec.{eqb}
use borrow.Author.Tests.{eqb-false}
use Rattle.laws.specs.Blocks.{block_at}
use Rattle.paper_record.specs.Places.{records_for}
use Rattle.paper_record.specs.Fields.{fields_of}
use Rattle.paper_record.specs.Word.{pointer_of}
use Rattle.paper_record.specs.declared.types.RecordNo.{RecordNo}
use Rattle.paper_record.specs.declared.types.Place.{Place}
use Rattle.paper_rules.specs.Roles.{is_value}
use Rattle.paper_rules.specs.Counts.{count_n1}
use Rattle.paper_entry.specs.declared.types.Verdict.{Verdict}
use Rattle.paper_entry.specs.Judging.{Accepted}
use Rattle.paper_entry.specs.Answer.{Refusal, refusal, first_of, is_refused}
use Rattle.paper_questions.specs.declared.types.Row.{Row}
use Rattle.paper_questions.specs.declared.types.Shape.{Shape}
use Rattle.paper_questions.specs.Located.{row_of}
use Rattle.paper_questions.specs.Place.{shape_of, heading_place, unit_place, field_of, byte_of}
use Rattle.paper_questions.specs.Refused.{is_subent, section_in, no_section, section_refusals, no_column, column_refusal}
use Rattle.paper_questions.specs.PartAnswers.{heading_by, unit_by}
use Rattle.paper_questions.specs.Ask.{heading_asked, unit_asked}
use Rattle.paper_questions.proofs.InOrder.{column-inside}
use Rattle.entry_walk.proofs.Laid.{row_role}
use Rattle.inside.proofs.RowFound.{Opening}
use Rattle.inside.proofs.Answered.{section_no, section_of, at-record, shape-columns, laid-at}
use Rattle.inside.proofs.Asked.{section-named}
use Rattle.paper_copy.specs.Copy.{copy_of}
use Rattle.paper_copy.proofs.Demand.{copy-accepted}
use Rattle.demand3.specs.Same.{SamePart, SameHeadings, SameUnits}
use Rattle.demand3.proofs.CopiedRecords.{copied-identifiers}
use Rattle.demand3.proofs.CopiedRows.{copied-row, shape-kept}
use Rattle.demand3.proofs.Parts.{NoValues, Words, fields-same, part_same}

-- ---- the heading and the unit of a column that is there

head-role : (b : Bool) (q : ℕ) → q ≤ 1 → is_value (row_role b q) ≡ false
head-role true zero h = refl
head-role true (suc zero) h = refl
head-role true (suc (suc q)) h = absurd (omega arith)
head-role false zero h = refl
head-role false (suc zero) h = refl
head-role false (suc (suc q)) h = absurd (omega arith)

-- a place in a record that is no value record
record InWords (s : List ℕ) (p : Place) : Type 0 where
  own : NoValues s p.at
  field : p.field ≤ 5

module _ (s : List ℕ) (accepted : Accepted s) (n : ℕ) (b : Bool) (a : ℕ) (o : Opening s n (section_of b) a)
    (column : ℕ) (from : 1 ≤ column) (to : column ≤ count_n1 (fields_of (block_at 81 s a))) where
  abbrev at : RecordNo
  at = section_in (row_of s n) (section_no b)

  abbrev columns : ℕ
  columns = count_n1 (fields_of (block_at 81 s a))

  -- the place in the row q, which is that of the headings or that of the units
  head-place : (q : ℕ) → q ≤ 1 → (p : Place) → p.at.0 ≡ suc (suc a + q * records_for columns + (column - 1) / 6)
      → p.field ≤ 5 → InWords s p
  head-place q h p e f =
      let i = suc a + q * records_for columns + (column - 1) / 6 in
      let (l, x) = laid-at s accepted n b a o q ((column - 1) / 6) (omega arith) (omega arith) in
      let z : p.at.0 - 1 ≡ i = omega arith in
      record { own = record { from = omega arith; to = omega arith; role = rw (z, x) (head-role b q h) }; field = f }

  heading-place : InWords s (heading_place at column)
  unfolding heading_place
  heading-place =
      let r = at-record s accepted n b a o in
      let z = zero-mul (records_for columns) in
      head-place 0 (omega arith) (heading_place at column) (omega arith) (omega arith)

  unit-place : InWords s (unit_place at columns column)
  unfolding unit_place
  unit-place =
      let r = at-record s accepted n b a o in
      let y = zero-mul (records_for columns) in
      let z = suc-mul 0 (records_for columns) in
      head-place 1 (omega arith) (unit_place at columns column) (omega arith) (omega arith)

-- ---- the column that is asked for

-- a question that is not refused has its section
section-there : (s : List ℕ) (v : Verdict) (x : Row) (at : RecordNo) (ys : List Refusal)
    → first_of (section_refusals s v x at ++ ys) ≡ 0 → at.0 ≡ 0 → ⊥
section-there s v x at ys = by_tests (is_refused v) (not (is_subent s x)) (no_section at) refl
  where
    by_tests : (a b c : Bool) → eqb at.0 0 ≡ c
        → first_of (refusal 31 a ∷ refusal 32 b ∷ refusal 33 c ∷ ys) ≡ 0 → at.0 ≡ 0 → ⊥
    by_tests true b c p e = absurd (omega arith)
    by_tests false true c p e = absurd (omega arith)
    by_tests false false true p e = absurd (omega arith)
    by_tests false false false p e = eqb-false at.0 0 p

-- both places of a column
record Headed (s : List ℕ) (section : RecordNo) (columns column : ℕ) : Type 0 where
  heading : InWords s (heading_place section column)
  unit : InWords s (unit_place section columns column)

headed-in : (s : List ℕ) (accepted : Accepted s) (n : ℕ) (b : Bool) (a : ℕ) → Opening s n (section_of b) a
    → (column : ℕ) → 1 ≤ column → column ≤ (shape_of s (section_no b) (section_in (row_of s n) (section_no b))).columns
    → Headed s (section_in (row_of s n) (section_no b))
    (shape_of s (section_no b) (section_in (row_of s n) (section_no b))).columns column
headed-in s accepted n b a o column from to =
    let e = shape-columns s accepted n b a o in
    let few = rw e at to in
    rw e
    (record {
      heading = heading-place s accepted n b a o column from few;
      unit = unit-place s accepted n b a o column from few;
    })

module _ (s : List ℕ) (accepted : Accepted s) (n section column : ℕ) where
  abbrev asked : RecordNo
  asked = section_in (row_of s n) section

  abbrev shape : Shape
  shape = shape_of s section asked

  section-of : (v : Verdict) → column_refusal s v (row_of s n) asked shape column ≡ 0 → asked.0 ≡ 0 → ⊥
  unfolding column_refusal
  section-of v e = section-there s v (row_of s n) asked (refusal 35 (no_column shape column) ∷ []) e

  headed : (v : Verdict) → column_refusal s v (row_of s n) asked shape column ≡ 0
      → Headed s asked shape.columns column
  headed v e =
      let (b, (q, o)) = section-named s n section accepted (section-of v e) in
      let (from, to) = column-inside s v (row_of s n) asked shape column e in
      rw q (headed-in s accepted n b (asked.0 - 1) o column from (rw q at to))

  refusal-same : (v : Verdict)
      → column_refusal (copy_of s) v (row_of s n) asked shape column ≡ column_refusal s v (row_of s n) asked shape column
  unfolding column_refusal
  refusal-same v = rw (copied-identifiers s accepted (row_of s n).first)

  ten-columns : (p : Place) → InWords s p → Words s (byte_of p) 10
  ten-columns p h i a b =
      let l = h.own.from in
      let f = h.field in
      let e : i / 81 ≡ p.at.0 - 1 = omega arith in
      rw e h.own.role

  pointer-same : (p : Place) → InWords s p → pointer_of (field_of (copy_of s) p) ≡ pointer_of (field_of s p)
  pointer-same p h = rw (fields-same s accepted p.at h.own)

  heading-same : (v : Verdict)
      → SamePart (copy_of s) s (heading_by (copy_of s) v (row_of s n) section column)
      (heading_by s v (row_of s n) section column)
  unfolding heading_by
  heading-same v =
      let heading = heading_place asked column in
      rw (shape-kept s accepted n section, refusal-same v)
      (part_same s accepted v (column_refusal s v (row_of s n) asked shape column) (byte_of heading) 10
      (pointer_of (field_of s heading)) (pointer_of (field_of (copy_of s) heading))
      (λ e. pointer-same heading (headed v e).heading)
      (λ e. ten-columns heading (headed v e).heading))

  unit-same : (v : Verdict)
      → SamePart (copy_of s) s (unit_by (copy_of s) v (row_of s n) section column)
      (unit_by s v (row_of s n) section column)
  unfolding unit_by
  unit-same v =
      let heading = heading_place asked column in
      let unit = unit_place asked shape.columns column in
      rw (shape-kept s accepted n section, refusal-same v)
      (part_same s accepted v (column_refusal s v (row_of s n) asked shape column) (byte_of unit) 10
      (pointer_of (field_of s heading)) (pointer_of (field_of (copy_of s) heading))
      (λ e. pointer-same heading (headed v e).heading)
      (λ e. ten-columns unit (headed v e).unit))

-- ---- "and words at the same places"

pub same_headings : SameHeadings
unfolding heading_asked
same_headings s accepted n section column =
    rw (copy-accepted s accepted, copied-row s accepted n) (heading-same s accepted n section column _)

pub same_units : SameUnits
unfolding unit_asked
same_units s accepted n section column =
    rw (copy-accepted s accepted, copied-row s accepted n) (unit-same s accepted n section column _)
