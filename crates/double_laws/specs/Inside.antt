-- Demand 3 of the mission, for doubles: "For an accepted entry, every question inside its own shape is answered", and what
-- is given is told by a blank field or by a number, never by a malformed one.
use Rattle.std.specs.Prelude.{ℕ, ◌≡◌, List}
use Rattle.paper_number.specs.declared.types.Decimal.{Decimal}
use Rattle.paper_number.specs.declared.types.Reading.{Reading}
use Rattle.paper_number.specs.declared.types.Reading.TheVariants as R
use Rattle.paper_record.specs.declared.types.LineNo.{LineNo}
use Rattle.paper_entry.specs.Judging.{Accepted}
use Rattle.paper_questions.specs.declared.types.Row.{Row}
use Rattle.paper_questions.specs.Ask.{value_asked}
use Rattle.paper_index.specs.TableAnswers.{value_from_row}
use Rattle.paper_index.specs.ByIndex.{value_by_index}
use Rattle.inside.specs.Inside.{InsideValue}
use Rattle.paper_double.specs.declared.types.Simple.{Simple}
use Rattle.paper_double.specs.declared.types.Simple.TheVariants.{Blank}
use Rattle.paper_double.specs.Double.{simple_of}
use Rattle.paper_double_asking.specs.Ask.{double_asked, double_from_row, double_by_index}

-- what the field says, and what is given for it
pub data ToldBy : Reading → Simple → Type 0 where
  by_blank : ToldBy R.Blank Blank
  by_number : (d : Decimal) → ToldBy (R.Number d) (simple_of d)

abbrev pub DoubleInside : Type 0
DoubleInside =
    (s : List ℕ) (n section : ℕ) (line : LineNo) (column : ℕ) → Accepted s → InsideValue s n section line column
    → ((double_asked s n section line column).answer.number ≡ 0)
    × ToldBy (value_asked s n section line column).value (double_asked s n section line column).value

-- and no other question is answered
abbrev pub DoubleOnlyInside : Type 0
DoubleOnlyInside =
    (s : List ℕ) (n section : ℕ) (line : LineNo) (column : ℕ) → (double_asked s n section line column).answer.number ≡ 0
    → Accepted s × InsideValue s n section line column

-- ---- by a row and by an index, of any numbers and over any bytes: what is answered is never told by a malformed field

abbrev pub DoubleRowTold : Type 0
DoubleRowTold =
    (s : List ℕ) (x : Row) (section : ℕ) (line : LineNo) (column : ℕ)
    → (double_from_row s x section line column).answer.number ≡ 0
    → ToldBy (value_from_row s x section line column).value (double_from_row s x section line column).value

abbrev pub DoubleIndexTold : Type 0
DoubleIndexTold =
    (s index : List ℕ) (n section : ℕ) (line : LineNo) (column : ℕ)
    → (double_by_index s index n section line column).answer.number ≡ 0
    → ToldBy (value_by_index s index n section line column).value (double_by_index s index n section line column).value
