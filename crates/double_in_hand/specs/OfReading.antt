-- What is claimed of a decimal in hand that a call has read: its three numbers give the double, or the decimal outside, that
-- the call for a double gives. So a value that is asked for, or given by a walk, need not be asked for again. Each type is
-- that of a law in proofs/OfReading, under the law's name.
use Rattle.std.specs.Prelude.{ℕ, ◌≡◌, List}
use Rattle.paper_number.specs.declared.types.Decimal.{Decimal}
use Rattle.paper_number.specs.declared.types.FieldRead.{FieldRead}
use Rattle.paper_number.specs.declared.types.Reading.TheVariants.{Number}
use Rattle.paper_number.specs.Reading.{read_field}
use Rattle.paper_number.specs.Digits.{number_read}
use Rattle.paper_record.specs.declared.types.LineNo.{LineNo}
use Rattle.paper_questions.specs.declared.types.Row.{Row}
use Rattle.paper_questions.specs.Ask.{value_asked}
use Rattle.paper_index.specs.TableAnswers.{value_from_row}
use Rattle.paper_index.specs.ByIndex.{value_by_index}
use Rattle.paper_walk.specs.declared.types.Walk.{Walk}
use Rattle.paper_walk.specs.Walk.{start_of, step_of, given_at, at_place}
use Rattle.paper_double.specs.declared.types.Simple.{Simple}
use Rattle.paper_double.specs.Double.{doubled}
use Rattle.paper_double_asking.specs.Ask.{double_asked, double_from_row, double_by_index}
use Rattle.exports_simple.specs.Doubles.{decimal_simple}

-- a decimal handed over as its three numbers
abbrev pub of_decimal : Decimal → Simple
of_decimal d = decimal_simple d.negative d.coefficient d.power

-- of a field of any width, and of one that `x4_read_number` has read
abbrev pub HandSame : Type 0
HandSame = (l : List ℕ) (d : Decimal) → read_field l ≡ Number d → of_decimal d ≡ doubled (read_field l)

abbrev pub HandRead : Type 0
HandRead =
    (l : List ℕ) (d : Decimal) → (number_read l).reading ≡ Number d → of_decimal d ≡ doubled (number_read l).reading

-- of a value that was asked for, over any bytes, by any row and by any index
abbrev pub HandAsked : Type 0
HandAsked =
    (s : List ℕ) (n section : ℕ) (line : LineNo) (column : ℕ) (d : Decimal)
    → (value_asked s n section line column).value ≡ Number d
    → of_decimal d ≡ (double_asked s n section line column).value

abbrev pub HandFromRow : Type 0
HandFromRow =
    (s : List ℕ) (row : Row) (section : ℕ) (line : LineNo) (column : ℕ) (d : Decimal)
    → (value_from_row s row section line column).value ≡ Number d
    → of_decimal d ≡ (double_from_row s row section line column).value

abbrev pub HandByIndex : Type 0
HandByIndex =
    (s index : List ℕ) (n section : ℕ) (line : LineNo) (column : ℕ) (d : Decimal)
    → (value_by_index s index n section line column).value ≡ Number d
    → of_decimal d ≡ (double_by_index s index n section line column).value

-- of what a step of a walk gives: of any walk the field's; of one that was made, what the question for a double gives there
abbrev pub HandStep : Type 0
HandStep =
    (s : List ℕ) (w : Walk) (line : LineNo) (column : ℕ) (field : FieldRead) (d : Decimal)
    → (step_of s w).given ≡ at_place line column field → field.reading ≡ Number d
    → of_decimal d ≡ doubled field.reading

abbrev pub HandWalked : Type 0
HandWalked =
    (s : List ℕ) (n section : ℕ) → (start_of s n section).answer.number ≡ 0
    → (i : ℕ) (line : LineNo) (column : ℕ) (field : FieldRead) (d : Decimal)
    → given_at s (start_of s n section) i ≡ at_place line column field → field.reading ≡ Number d
    → of_decimal d ≡ (double_asked s n section line column).value
