-- The question for a double, by the value question.
-- Assumes nothing.
use Prim.Native.Nat.{ℕ, suc, ◌≤◌}
use mathlib.Core.Path.{◌≡◌, refl, sym, ◌∙◌, subst}
use mathlib.Core.List.{List}
use mathlib.Core.Bool.{Bool, true, false}
use native.Mathlib.Omega.{arith}
use borrow.Author.Tests.{leb-true, le-leb, eqb-true, eqb-false}
use lib.Dec.{T, leb, eqb}
use lib.IntN.{ℤ, pos, negsuc}
use lib.ListN.{length}
use Rattle.paper_number.specs.declared.types.Decimal.{Decimal}
use Rattle.paper_number.specs.declared.types.Reading.TheVariants.{Number, Refused}
use Rattle.paper_number.specs.Digits.{number_read}
use Rattle.paper_number.proofs.Laws.{eleven-read, others-refused}
use Rattle.paper_questions.specs.declared.types.ValueAnswer.{ValueAnswer}
use Rattle.paper_double.specs.Double.{in_range, TEN-DIGITS, simple_of}
use Rattle.paper_double_asking.specs.Ask.{as_double, double_asked, double_from_row, double_by_index}
use Rattle.paper_double.proofs.Doubles.{rounded-once, field-ten, outside-exactly}
use Rattle.paper_double.proofs.Rungs.{too_long}
use Rattle.double_laws.specs.OfValue.{SimplePower, GivenAs, DoubleAnswered, DoubleOfValue, DoubleOfRow, DoubleOfIndex}
use Rattle.double_laws.specs.OfValue.{DoubleOfField, DoubleOfReading, LongOutside}
use Rattle.double_laws.proofs.FieldsRead.{Columns, ReadFrom, read-from, asked-columns, row-columns, index-columns}

is_true : (b : Bool) → T b → b ≡ true
is_true true t = refl
is_true false t = absurd t

one_down : (k : ℕ) → T (leb k 21) → leb (suc k) 22 ≡ true
one_down k t = le-leb (suc k) 22 (omega (arith, leb-true k 21 (is_true (leb k 21) t)))

one_up : (k : ℕ) → leb (suc k) 22 ≡ true → leb k 21 ≡ true
one_up k e = le-leb k 21 (omega (arith, leb-true (suc k) 22 e))

-- the range, by its two ends
pub in-range : (p : ℤ) → SimplePower p → in_range p ≡ true
in-range (pos k) h = is_true (leb k 22) h.1.le
in-range (negsuc k) h = one_down k h.0.le

pub out_of_range : (p : ℤ) → (SimplePower p → ⊥) → in_range p ≡ false
out_of_range (pos k) h = by (leb k 22) refl
  where
    by : (b : Bool) → leb k 22 ≡ b → b ≡ false
    by true e = absurd (h (record { le = tt }, record { le = subst T (sym e) tt }))
    by false e = refl
out_of_range (negsuc k) h = by (leb (suc k) 22) refl
  where
    by : (b : Bool) → leb (suc k) 22 ≡ b → b ≡ false
    by true e = absurd (h (record { le = subst T (sym (one_up k e)) tt }, record { le = tt }))
    by false e = refl

pub given-ten : (d : Decimal) → d.coefficient ≤ 9999999999 → GivenAs d (simple_of d)
given-ten d c =
    let ten = le-leb d.coefficient TEN-DIGITS c in
    record {
      simple = λ h. rounded-once d (rw (ten, in-range d.power h) refl);
      outside = λ h. (outside-exactly d d).1 (rw (ten, out_of_range d.power h) refl, refl);
    }

pub given-as : (d : Decimal) → ReadFrom d → GivenAs d (simple_of d)
given-as d f = given-ten d (field-ten f.columns d f.wide f.read)

pub double-of : (v : ValueAnswer) → Columns v → DoubleAnswered v (as_double v)
double-of v c =
    record {
      answered = refl;
      counted = refl;
      number = λ d e. rw e (given-as d (read-from v d c e));
      blank = λ e. rw e refl;
      refused = λ h. rw (c.refused h) refl;
    }

pub double-of-value : DoubleOfValue
unfolding double_asked
double-of-value s n section line column = double-of _ (asked-columns s line column n section)

pub double-of-row : DoubleOfRow
unfolding double_from_row
double-of-row s x section line column = double-of _ (row-columns s line column x section)

pub double-of-index : DoubleOfIndex
unfolding double_by_index
double-of-index s index n section line column = double-of _ (index-columns s line column index n section)

-- ---- a reading in hand

pub double-of-reading : DoubleOfReading
double-of-reading r ten =
    record {
      number = λ d e. rw e (given-ten d (ten d e));
      blank = λ e. rw e refl;
      refused = λ n e. rw e refl;
    }

ten-read : (l : List ℕ) (d : Decimal) → (number_read l).reading ≡ Number d → d.coefficient ≤ 9999999999
unfolding number_read
ten-read l d e = by_length (eqb (length l) 11) refl
  where
    by_length : (b : Bool) → eqb (length l) 11 ≡ b → d.coefficient ≤ 9999999999
    by_length true t =
        let w = eqb-true (length l) 11 t in
        field-ten l d w (sym (eleven-read l w) ∙ e)
    by_length false t =
        let r : Refused 40 ≡ Number d = sym (others-refused l (eqb-false (length l) 11 t)) ∙ e in
        let z : ◌≡◌ {A = ℕ} 0 1 = cc in
        absurd (omega arith)

pub double-of-field : DoubleOfField
double-of-field l = double-of-reading (number_read l).reading (ten-read l)

pub long-outside : LongOutside
long-outside d h = sym (too_long d h)
