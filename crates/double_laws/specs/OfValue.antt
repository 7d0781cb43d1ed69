-- The question for a double, said by the value question, for every list of bytes, every row and every index; and a reading
-- in hand (document 02, M-107):
--
--   "Give each value as blank, a double, or a decimal that is outside the simple range. Simple means the power lies in
--   -22 to 22 [..]. Refusals: as for the value question."
--
-- The definitions compute a double by one operation on two doubles. Here it is the decimal itself, rounded once.
use Rattle.std.specs.Prelude.{ℕ, ◌<◌, ◌≤◌, ◌≡◌, List, ℤ, pos, neg_ℤ, ◌≤ℤ◌}
use Rattle.std.specs.Float.{binary64}
use Rattle.std.specs.Float.Ieee.{round}
use Rattle.paper_number.specs.declared.types.Decimal.{Decimal}
use Rattle.paper_number.specs.declared.types.Reading.{Reading}
use Rattle.paper_number.specs.declared.types.Reading.TheVariants as R
use Rattle.paper_number.specs.Digits.{number_read}
use Rattle.paper_record.specs.declared.types.LineNo.{LineNo}
use Rattle.paper_questions.specs.declared.types.Row.{Row}
use Rattle.paper_questions.specs.declared.types.ValueAnswer.{ValueAnswer}
use Rattle.paper_questions.specs.Ask.{value_asked}
use Rattle.paper_index.specs.TableAnswers.{value_from_row}
use Rattle.paper_index.specs.ByIndex.{value_by_index}
use Rattle.paper_double.specs.declared.types.Simple.{Simple}
use Rattle.paper_double.specs.declared.types.Simple.TheVariants.{Blank, Double, Outside}
use Rattle.paper_double_asking.specs.declared.types.DoubleAnswer.{DoubleAnswer}
use Rattle.paper_double.specs.Double.{doubled}
use Rattle.paper_double.specs.Claims.{over, under}
use Rattle.paper_double_asking.specs.Ask.{double_asked, double_from_row, double_by_index}

-- "Simple means the power lies in -22 to 22"
abbrev pub SimplePower : ℤ → Type 0
SimplePower p = (neg_ℤ (pos 22) ≤ℤ p) × (p ≤ℤ pos 22)

-- a decimal as a double, rounded once to the nearest, of two to the even one; outside the range as it is
pub record GivenAs (d : Decimal) (x : Simple) : Type 0 where
  pub simple : SimplePower d.power
      → x ≡ Double (round binary64 d.negative (over d.coefficient d.power) (under d.power))
  pub outside : (SimplePower d.power → ⊥) → x ≡ Outside d

-- the answer to a question for a double, by the one to the value question
pub record DoubleAnswered (v : ValueAnswer) (a : DoubleAnswer) : Type 0 where
  -- "Refusals: as for the value question"
  pub answered : a.answer ≡ v.answer
  pub counted : a.digits ≡ v.digits
  pub number : (d : Decimal) → v.value ≡ R.Number d → GivenAs d a.value
  pub blank : v.value ≡ R.Blank → a.value ≡ Blank
  pub refused : (v.answer.number ≡ 0 → ⊥) → a.value ≡ Blank

abbrev pub DoubleOfValue : Type 0
DoubleOfValue =
    (s : List ℕ) (n section : ℕ) (line : LineNo) (column : ℕ)
    → DoubleAnswered (value_asked s n section line column) (double_asked s n section line column)

abbrev pub DoubleOfRow : Type 0
DoubleOfRow =
    (s : List ℕ) (x : Row) (section : ℕ) (line : LineNo) (column : ℕ)
    → DoubleAnswered (value_from_row s x section line column) (double_from_row s x section line column)

abbrev pub DoubleOfIndex : Type 0
DoubleOfIndex =
    (s index : List ℕ) (n section : ℕ) (line : LineNo) (column : ℕ)
    → DoubleAnswered (value_by_index s index n section line column) (double_by_index s index n section line column)

-- ---- a reading in hand

pub record DoubleRead (r : Reading) (x : Simple) : Type 0 where
  pub number : (d : Decimal) → r ≡ R.Number d → GivenAs d x
  pub blank : r ≡ R.Blank → x ≡ Blank
  -- "a refused value is blank beside its number"
  pub refused : (n : ℕ) → r ≡ R.Refused n → x ≡ Blank

-- whatever bytes are read as a field
abbrev pub DoubleOfField : Type 0
DoubleOfField = (l : List ℕ) → DoubleRead (number_read l).reading (doubled (number_read l).reading)

-- any reading whose number has ten digits at most
abbrev pub DoubleOfReading : Type 0
DoubleOfReading =
    (r : Reading) → ((d : Decimal) → r ≡ R.Number d → d.coefficient ≤ 9999999999) → DoubleRead r (doubled r)

-- a number with more digits, which no field has, is outside
abbrev pub LongOutside : Type 0
LongOutside = (d : Decimal) → 9999999999 < d.coefficient → doubled (R.Number d) ≡ Outside d
