-- What the columns of a field spell, what that says, and how many digits are written there. That both are what the reading
-- comes to are the laws `spelt-says` and `spelt-digits`.
use Rattle.std.specs.Prelude.{ℕ, ◌<◌, ◌≤◌, ◌^◌, ℤ, pos, ◌-ℤ◌, Option, Some, None, IfSome}
use Rattle.paper_number.specs.declared.types.Reading.{Reading}
use Rattle.paper_number.specs.declared.types.Reading.TheVariants.{Blank, Number, Refused}
use Rattle.paper_number.specs.Value.{signed_by, value_of}
use Rattle.paper_number.specs.Count.{significant}
use Rattle.paper_number.specs.declared.types.Exponent.{Exponent}
use Rattle.paper_number.specs.declared.types.SpeltNumber.{SpeltNumber}
use Rattle.paper_number.specs.declared.types.Spelt.{Spelt}
use Rattle.paper_number.specs.declared.types.Spelt.TheVariants as S
use Rattle.paper_number.specs.Walk.{SmallExponent}

-- the exponent, 0 where none is written
abbrev pub exponent_spelt : Option Exponent → ℤ
exponent_spelt None = pos 0
exponent_spelt (Some x) = signed_by x.below x.size

abbrev pub reading_of : Spelt → Reading
reading_of S.Blank = Blank
reading_of S.Malformed = Refused 15
reading_of (S.Number n) = Number (value_of n.negative n.number (exponent_spelt n.exponent -ℤ pos n.places))

abbrev pub digits_spelt : Spelt → ℕ
digits_spelt S.Blank = 0
digits_spelt S.Malformed = 0
digits_spelt (S.Number n) = significant n.number

-- columns that are not blank: a number, or nothing
abbrev pub number_spelt : Option SpeltNumber → Spelt
number_spelt None = S.Malformed
number_spelt (Some n) = S.Number n

-- no more than eleven columns can hold
pub record SmallNumber (n : SpeltNumber) : Type 0 where
  pub number : n.number < 10 ^ 11
  pub places : n.places ≤ 11
  pub size : IfSome n.exponent SmallExponent

abbrev pub Small : Spelt → Type 0
Small S.Blank = Unit {0}
Small S.Malformed = Unit {0}
Small (S.Number n) = SmallNumber n
