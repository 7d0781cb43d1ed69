-- A walk from a row of any numbers: its answer, its places, and what it gives; a refused one is done.
-- Assumes nothing.
use Prim.Native.Nat.{ℕ}
use mathlib.Core.Path.{◌≡◌, refl, sym, ap, ◌∙◌}
use mathlib.Core.Bool.{Bool, true, false, not}
use mathlib.Core.List.{List, [], ◌∷◌, ◌++◌}
use native.Mathlib.Omega.{arith}
use lib.Dec.{eqb}
use borrow.Author.Tests.{eqb-true, eqb-false, le-leb, eq-eqb, ne_eqb}
use Rattle.laws.proofs.Booleans.{and_both}
use Rattle.paper_record.specs.Text.{within}
use Rattle.paper_record.specs.Places.{place_of}
use Rattle.paper_record.specs.declared.types.RecordNo.{RecordNo}
use Rattle.paper_record.specs.declared.types.LineNo.{LineNo}
use Rattle.paper_record.proofs.Within.{within-bounds}
use Rattle.paper_entry.specs.declared.types.Answer.{Answer}
use Rattle.paper_entry.specs.Answer.{Refusal, refusal, first_of, answer_of}
use Rattle.paper_entry.proofs.Firsts.{first-given}
use Rattle.paper_questions.specs.declared.types.Row.{Row}
use Rattle.paper_questions.specs.declared.types.Shape.{Shape}
use Rattle.paper_questions.specs.Place.{shape_of}
use Rattle.paper_questions.specs.Refused.{InShape, section_in}
use Rattle.paper_index.specs.Reads.{read_refusals, table_identifier, good_value}
use Rattle.paper_index.specs.TableAnswers.{value_from_row}
use Rattle.paper_index.proofs.ReadsInOrder.{read_none, section-there}
use Rattle.paper_walk.specs.Walk.{done_walk, walk_from, start_from_row, at_place}
use Rattle.paper_walk.specs.Claims.{field_there, value_by_row, Fits, RowAnswer, RowRefused, RowPlaces, RowGives}
use Rattle.paper_walk.proofs.Standing.{done-stands}
use Rattle.paper_walk.proofs.Order.{never, gives-each}
use Rattle.paper_walk.proofs.Started.{said-either, few-columns, few-lines}

-- ---- its answer

pub row-answer : RowAnswer
unfolding start_from_row
row-answer s x section =
    said-either answer_of (first_of (read_refusals s x (section_in x section) (table_identifier section))) _ _ refl refl

-- ---- line, column and field, each by its test

abbrev three : Bool → Bool → Bool → ℕ
three d e f = first_of (refusal 34 (not d) ∷ refusal 35 (not e) ∷ refusal 39 f ∷ [])

both_of : (d e f : Bool) → (three d e f ≡ 34 → ⊥) × (three d e f ≡ 35 → ⊥) → (d ≡ true) × (e ≡ true)
both_of true true f h = (refl, refl)
both_of true false f h = absurd (h.1 refl)
both_of false e f h = absurd (h.0 refl)

neither-of : (f : Bool) → (three true true f ≡ 34 → ⊥) × (three true true f ≡ 35 → ⊥)
neither-of true = (λ e. omega arith, λ e. omega arith)
neither-of false = (λ e. omega arith, λ e. omega arith)

module _ (s : List ℕ) (x : Row) (section : ℕ) where
  abbrev own : RecordNo
  own = section_in x section

  abbrev shape : Shape
  shape = shape_of s section own

  abbrev number : ℕ
  number = first_of (read_refusals s x own (table_identifier section))

  number-said : (start_from_row s x section).answer.number ≡ number
  number-said = ap (λ (a : Answer). a.number) (row-answer s x section)

  refused-walk : (number ≡ 0 → ⊥) → start_from_row s x section ≡ done_walk (answer_of number)
  unfolding start_from_row
  refused-walk h = rw (ne_eqb number 0 h) refl

  module _ (none : number ≡ 0) where
    made : start_from_row s x section ≡ walk_from own shape
    unfolding start_from_row
    made = rw (eq-eqb number 0 none) refl

    fits : Fits (walk_from own shape)
    fits =
        record {
          section = section-there s x own (table_identifier section) none;
          columns = few-columns s section own;
          lines = few-lines s section own;
        }

  module _ (line : LineNo) (column : ℕ) where
    abbrev line_in : Bool
    line_in = within 1 shape.lines line.0

    abbrev column_in : Bool
    column_in = within 1 shape.columns column

    abbrev bad : Bool
    bad =
        not (good_value s section (place_of own shape.columns line column)
        (field_there s (walk_from own shape) line column).reading)

    abbrev later : List Refusal
    later = refusal 34 (not line_in) ∷ refusal 35 (not column_in) ∷ refusal 39 bad ∷ []

    asked-number : (value_from_row s x section line column).answer.number
        ≡ first_of (read_refusals s x own (table_identifier section) ++ later)
    unfolding value_from_row
    asked-number = refl

    asked-later : number ≡ 0 → (value_from_row s x section line column).answer.number ≡ three line_in column_in bad
    asked-later none = asked-number ∙ read_none s x own (table_identifier section) later none

    -- an answered question has good reads
    asked-none : (value_from_row s x section line column).answer.number ≡ 0 → number ≡ 0
    asked-none e = by-test (eqb number 0) refl
      where
        by-test : (t : Bool) → eqb number 0 ≡ t → number ≡ 0
        by-test true k = eqb-true number 0 k
        by-test false k =
            sym (first-given (read_refusals s x own (table_identifier section)) later (eqb-false number 0 k))
            ∙ sym asked-number ∙ e

    place-of : (line_in ≡ true) × (column_in ≡ true) → InShape shape line column
    place-of h =
        let (a, b) = within-bounds 1 shape.lines line.0 h.0 in
        let (c, d) = within-bounds 1 shape.columns column h.1 in
        record { line_from = a; line_to = b; column_from = c; column_to = d }

    asked-place : number ≡ 0
        → ((value_from_row s x section line column).answer.number ≡ 34 → ⊥)
        × ((value_from_row s x section line column).answer.number ≡ 35 → ⊥) → InShape shape line column
    asked-place none h = place-of (both_of line_in column_in bad (rw (asked-later none) at h))

    place-asked : number ≡ 0 → InShape shape line column
        → ((value_from_row s x section line column).answer.number ≡ 34 → ⊥)
        × ((value_from_row s x section line column).answer.number ≡ 35 → ⊥)
    place-asked none p =
        let l : line_in ≡ true = and_both (le-leb 1 line.0 p.line_from) (le-leb line.0 shape.lines p.line_to) in
        let k : column_in ≡ true = and_both (le-leb 1 column p.column_from) (le-leb column shape.columns p.column_to) in
        rw (asked-later none, l, k) (neither-of bad)

    -- it says what the field there says
    value-said : (value_from_row s x section line column).answer.number ≡ 0
        → value_by_row s x section line column ≡ field_there s (walk_from own shape) line column
    unfolding value_from_row
    value-said e = rw e refl

pub row-refused : RowRefused
row-refused s x section h i =
    rw (refused-walk s x section (λ e. h (number-said s x section ∙ e)))
    (never s (done_walk (answer_of (number s x section))) (done-stands (answer_of (number s x section))) i)

pub row-places : RowPlaces
row-places s x section e line column =
    let none : number s x section ≡ 0 = sym (number-said s x section) ∙ e in
    rw (made s x section none)
    (asked-place s x section line column none, place-asked s x section line column none)

pub row_gives : RowGives
row_gives s x section line column e =
    let none = asked-none s x section line column e in
    let p = asked-place s x section line column none (λ z. omega (arith, e, z), λ z. omega (arith, e, z)) in
    rw (made s x section none)
    (gives-each s (own s x section) (shape s x section) (fits s x section none) line column p
    ∙ ap (at_place line column) (sym (value-said s x section line column e)))
