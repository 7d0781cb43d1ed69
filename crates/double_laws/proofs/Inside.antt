-- Every question for a double inside the shape is answered, and no other; none is told by a malformed field.
-- Assumes nothing.
use Prim.Native.Nat.{ℕ}
use mathlib.Core.Path.{◌≡◌, refl, sym, ◌∙◌}
use mathlib.Core.Bool.{Bool, true, false, cond, not}
use mathlib.Core.List.{List, [], ◌∷◌, ◌++◌}
use native.Mathlib.Omega.{arith}
use borrow.Author.Tests.{eqb-true, eqb-false}
use lib.Dec.{eqb}
use Rattle.laws.proofs.Booleans.{differ, and_right}
use Rattle.paper_number.specs.declared.types.Reading.{Reading}
use Rattle.paper_number.specs.declared.types.Reading.TheVariants.{Blank, Number, Refused}
use Rattle.paper_number.specs.Digits.{field_read}
use Rattle.paper_record.specs.declared.types.LineNo.{LineNo}
use Rattle.paper_record.specs.Places.{place_of}
use Rattle.paper_entry.specs.Answer.{Refusal, refusal, first_of}
use Rattle.paper_entry.proofs.Firsts.{numbered, first-given, none-given}
use Rattle.paper_questions.specs.declared.types.Row.{Row}
use Rattle.paper_questions.specs.Place.{shape_of, field_of}
use Rattle.paper_questions.specs.Refused.{section_in, no_line, no_column}
use Rattle.paper_index.specs.Reads.{in_entry, read_refusals, table_identifier, good_reading, good_value}
use Rattle.paper_index.specs.TableAnswers.{value_from_row}
use Rattle.paper_index.specs.ByIndex.{row_in, rows_before, row_refusal, refused_value, value_by_index}
use Rattle.inside.specs.Inside.{is_said}
use Rattle.inside.proofs.Answered.{value-answered}
use Rattle.inside.proofs.Asked.{value-asked}
use Rattle.paper_double.specs.Double.{doubled}
use Rattle.paper_double_asking.specs.Ask.{double_asked, double_from_row, double_by_index}
use Rattle.double_laws.specs.Inside.{ToldBy, by_blank, by_number, DoubleInside, DoubleOnlyInside}
use Rattle.double_laws.specs.Inside.{DoubleRowTold, DoubleIndexTold}

told-by : (r : Reading) → is_said r ≡ true → ToldBy r (doubled r)
told-by Blank e = by_blank
told-by (Number d) e = by_number d
told-by (Refused n) e = differ (sym e)

pub double-inside : DoubleInside
unfolding double_asked
double-inside s n section line column accepted i =
    let (answered, said) = value-answered s n section line column accepted i in
    (answered, told-by _ said)

pub double-only-inside : DoubleOnlyInside
unfolding double_asked
double-only-inside s n section line column e = value-asked s n section line column e

-- ---- by a row: 39 is given where the field is malformed

module _ (xs : List Refusal) (a b c : Bool) where
  abbrev last : List Refusal
  last = refusal 34 a ∷ refusal 35 b ∷ refusal 39 c ∷ []

  not_last : numbered xs ≡ true → first_of (xs ++ last) ≡ 0 → c ≡ false
  not_last h e = by_first (eqb (first_of xs) 0) refl
    where
      none : (a b c : Bool) → first_of (refusal 34 a ∷ refusal 35 b ∷ refusal 39 c ∷ []) ≡ 0 → c ≡ false
      none true b c q = absurd (omega arith)
      none false true c q = absurd (omega arith)
      none false false true q = absurd (omega arith)
      none false false false q = refl

      by_first : (t : Bool) → eqb (first_of xs) 0 ≡ t → c ≡ false
      by_first true q = none a b c (sym (none-given xs last h (eqb-true (first_of xs) 0 q)) ∙ e)
      by_first false q =
          let z = eqb-false (first_of xs) 0 q in
          absurd (z (sym (first-given xs last z) ∙ e))

good-said : (section : ℕ) (r : Reading) → good_reading section r ≡ true → is_said r ≡ true
good-said section Blank e = refl
good-said section (Number d) e = refl
good-said section (Refused n) e = e

turned : (b : Bool) → not b ≡ false → b ≡ true
turned true e = refl
turned false e = differ e

said-by : (number : ℕ) (r : Reading) → number ≡ 0 → is_said r ≡ true → is_said (cond (eqb number 0) r Blank) ≡ true
said-by number r z h = rw z h

row-said : (s : List ℕ) (x : Row) (section : ℕ) (line : LineNo) (column : ℕ)
    → (value_from_row s x section line column).answer.number ≡ 0
    → is_said (value_from_row s x section line column).value ≡ true
unfolding value_from_row good_value
row-said s x section line column e =
    let at = section_in x section in
    let shape = shape_of s section at in
    let place = place_of at shape.columns line column in
    let r = (field_read (field_of s place)).reading in
    let xs = read_refusals s x at (table_identifier section) in
    let good = good_value s section place r in
    let bad = not_last xs (no_line shape line) (no_column shape column) (not good) refl e in
    let lies = in_entry s place.at in
    said-by (first_of (xs ++ last xs (no_line shape line) (no_column shape column) (not good))) r e
    (good-said section r (and_right lies (good_reading section r) (turned good bad)))

pub double-row-told : DoubleRowTold
unfolding double_from_row
double-row-told s x section line column e = told-by _ (row-said s x section line column e)

pub double-index-told : DoubleIndexTold
unfolding double_by_index value_by_index
double-index-told s index n section line column e = by_row (eqb (row_refusal index n) 0) e
  where
    by_row : (b : Bool)
        → let v =
        cond b (value_from_row s (row_in index (rows_before index n)) section line column)
        (refused_value (row_refusal index n)) in
        v.answer.number ≡ 0 → ToldBy v.value (doubled v.value)
    by_row true z = told-by _ (row-said s (row_in index (rows_before index n)) section line column z)
    by_row false z = by_blank
