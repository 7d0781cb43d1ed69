-- What is claimed of the doubles (document 02, M-107):
--
--   "the double is the coefficient times, or divided by, the exact power of ten, rounded once by that one operation,
--   negated where negative. Where the value is a whole number below 2 to the 53rd in size, the double is exactly it.
--   Prove the ten-digit coefficient loses nothing on its way."
--
-- `HasValue x s a c` says that x is finite, has the sign s, and is a / c in size; `round` gives the double that is nearest
-- to a fraction, of two the one whose last digit is even.
use Rattle.std.specs.Prelude.{ℕ, suc, ◌*◌, ◌^◌, ◌<◌, ◌≤◌, ◌≡◌, Bool, true, false, cond, List, ◌↔◌, ℤ, pos, negsuc, length, Float}
use Rattle.std.specs.Float.{binary64}
use Rattle.std.specs.Float.Ieee.{round, of_bits, to_unsigned}
use Rattle.std.specs.Float.Ieee.Exact.{HasValue}
use Rattle.paper_number.specs.declared.types.Decimal.{Decimal}
use Rattle.paper_number.specs.declared.types.Reading.TheVariants.{Number}
use Rattle.paper_number.specs.Value.{Value, decimal, zero_decimal}
use Rattle.paper_number.specs.Reading.{read_field}
use Rattle.paper_double.specs.declared.types.Simple.TheVariants.{Double, Outside}
use Rattle.paper_double.specs.Double.{plus_zero, whole, in_range, TEN-DIGITS, is_simple, double_of, simple_of}

-- ---- nothing is lost on the way

-- "the ten-digit coefficient loses nothing on its way": it is the double's value, and comes back from it
abbrev pub CoefficientKept : Type 0
CoefficientKept = (c : ℕ) → c ≤ 9999999999 → HasValue (whole c) false c 1 × (to_unsigned 64 (whole c) ≡ c)

-- "the exact power of ten"
abbrev pub TenExact : Type 0
TenExact = (k : ℕ) → k ≤ 22 → HasValue (whole (10 ^ k)) false (10 ^ k) 1

-- ---- the double of a simple decimal is the decimal, rounded once, to nearest, ties to even

-- the decimal as a fraction
abbrev pub over : ℕ → ℤ → ℕ
over c (pos k) = c * 10 ^ k
over c (negsuc k) = c

abbrev pub under : ℤ → ℕ
under (pos k) = 1
under (negsuc k) = 10 ^ suc k

abbrev pub RoundedOnce : Type 0
RoundedOnce =
    (d : Decimal) → is_simple d ≡ true
    → simple_of d ≡ Double (round binary64 d.negative (over d.coefficient d.power) (under d.power))

-- "Where the value is a whole number below 2 to the 53rd in size, the double is exactly it"; `Value s n (pos 0) d` says
-- that d is the value of the whole number n with the sign s
pub record Exactly (d : Decimal) (n : ℕ) : Type 0 where
  pub double : Float
  pub given : simple_of d ≡ Double double
  pub same : HasValue double d.negative n 1

abbrev pub WholeDouble : Type 0
WholeDouble =
    (s : Bool) (n : ℕ) (d : Decimal) → d.coefficient ≤ 9999999999 → Value s n (pos 0) d → n < 2 ^ 53 → Exactly d n

-- one of them by its bits: 0.145
abbrev pub DownExample : Type 0
DownExample = simple_of (decimal false 145 (negsuc 2)) ≡ Double (of_bits binary64 4594392195858285199)

-- zero is +0.0
abbrev pub ZeroDouble : Type 0
ZeroDouble = simple_of zero_decimal ≡ Double plus_zero

-- ---- number fields

-- every field has at most ten digits
abbrev pub FieldTen : Type 0
FieldTen = (l : List ℕ) (d : Decimal) → length l ≡ 11 → read_field l ≡ Number d → d.coefficient ≤ TEN-DIGITS

-- so in a field every whole number below 2 to the 53rd in size is simple, and its double is exactly it
abbrev pub FieldWhole : Type 0
FieldWhole =
    (l : List ℕ) (s : Bool) (n : ℕ) (d : Decimal) → length l ≡ 11 → read_field l ≡ Number d → Value s n (pos 0) d
    → n < 2 ^ 53 → Exactly d n

-- and the power alone decides: "Simple means the power lies in -22 to 22"
abbrev pub FieldSimple : Type 0
FieldSimple =
    (l : List ℕ) (d : Decimal) → length l ≡ 11 → read_field l ≡ Number d
    → simple_of d ≡ cond (in_range d.power) (Double (double_of d)) (Outside d)

-- zero however it is signed or scaled
abbrev pub ZeroField : Type 0
ZeroField =
    (l : List ℕ) (d : Decimal) → read_field l ≡ Number d → d.coefficient ≡ 0 → simple_of d ≡ Double plus_zero

-- ---- "a decimal that is outside the simple range" is the decimal itself, and nothing else is given so
abbrev pub OutsideExactly : Type 0
OutsideExactly = (d e : Decimal) → (simple_of d ≡ Outside e) ↔ ((is_simple d ≡ false) × (d ≡ e))
