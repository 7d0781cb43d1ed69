-- Doubles (document 02, M-107):
--
--   "Give each value as blank, a double, or a decimal that is outside the simple range. Simple means the power lies in
--   -22 to 22: the double is the coefficient times, or divided by, the exact power of ten, rounded once by that one
--   operation, negated where negative."
use Rattle.std.specs.Prelude.{ℕ, suc, ◌^◌, Bool, false, cond, ◌&&◌, ℤ, pos, negsuc, leb, Float}
use Rattle.std.specs.Float.{fin, binary64}
use Rattle.std.specs.Float.Ieee.{of_int, mul, div, neg}
use Rattle.paper_number.specs.Value.{zero_decimal}
use Rattle.paper_number.specs.declared.types.Decimal.{Decimal}
use Rattle.paper_number.specs.declared.types.Reading.{Reading}
use Rattle.paper_number.specs.declared.types.Reading.TheVariants as R
use Rattle.paper_double.specs.declared.types.Simple.{Simple}
use Rattle.paper_double.specs.declared.types.Simple.TheVariants.{Blank, Double, Outside}

-- the double of a whole number: the nearest one, and the number itself up to 2 to the 53rd (`whole-exact`)
abbrev pub whole : ℕ → Float
whole n = of_int binary64 (pos n)

-- "the coefficient times, or divided by, the exact power of ten, rounded once by that one operation"
unfoldable pub times : ℕ → ℕ → Float
times c k = mul binary64 (whole c) (whole (10 ^ k))

unfoldable pub divided : ℕ → ℕ → Float
divided c k = div binary64 (whole c) (whole (10 ^ k))

abbrev pub sized : ℕ → ℤ → Float
sized c (pos k) = times c k
sized c (negsuc k) = divided c (suc k)

-- "negated where negative"
abbrev pub signed_by : Bool → Float → Float
signed_by negative x = cond negative (neg x) x

abbrev pub double_of : Decimal → Float
double_of d = signed_by d.negative (sized d.coefficient d.power)

-- "Simple means the power lies in -22 to 22"
abbrev pub in_range : ℤ → Bool
in_range (pos k) = leb k 22
in_range (negsuc k) = leb (suc k) 22

-- "the ten-digit coefficient": every number field has one (`field-ten`); a decimal with more digits, which no field reads
-- to, is given as it is
abbrev pub TEN-DIGITS : ℕ
TEN-DIGITS = 9999999999

abbrev pub is_simple : Decimal → Bool
is_simple d = leb d.coefficient TEN-DIGITS && in_range d.power

unfoldable pub simple_of : Decimal → Simple
simple_of d = cond (is_simple d) (Double (double_of d)) (Outside d)

-- what a field says, its number as a double; a value that is answered is never malformed (`answered-said`, inside)
abbrev pub doubled : Reading → Simple
doubled R.Blank = Blank
doubled (R.Number d) = simple_of d
doubled (R.Refused n) = Blank

-- ---- which of the three it is, and its values

pub record SimpleSaid : Type 0 where
  pub kind : ℕ
  pub double : Float
  pub decimal : Decimal

abbrev pub plus_zero : Float
plus_zero = fin false 0 (pos 0)

-- 0 blank, 1 a double, 2 a decimal; zeros where it is none
abbrev pub simple_said : Simple → SimpleSaid
simple_said Blank = record { kind = 0; double = plus_zero; decimal = zero_decimal }
simple_said (Double x) = record { kind = 1; double = x; decimal = zero_decimal }
simple_said (Outside d) = record { kind = 2; double = plus_zero; decimal = d }
