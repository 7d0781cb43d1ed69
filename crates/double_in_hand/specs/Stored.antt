-- What is claimed of the eight numbers that a call has stored for a value: handed to `x4_as_double` and `x4_as_double_kind` they
-- give what the call for a double gives, whatever stood in the lent array before. Each type is that of a law in
-- proofs/Stored, under the law's name.
use Rattle.std.specs.Prelude.{ℕ, ◌≡◌, not, List, eqb, get_or}
use Rattle.paper_number.specs.declared.types.Decimal.{Decimal}
use Rattle.paper_number.specs.declared.types.FieldRead.{FieldRead}
use Rattle.paper_number.specs.declared.types.Reading.TheVariants.{Number}
use Rattle.paper_number.specs.Digits.{number_read}
use Rattle.paper_record.specs.declared.types.LineNo.{LineNo}
use Rattle.paper_questions.specs.Ask.{value_asked}
use Rattle.paper_index.specs.ByIndex.{value_by_index}
use Rattle.paper_walk.specs.Walk.{start_of, given_at, at_place}
use Rattle.paper_double.specs.declared.types.Simple.{Simple}
use Rattle.paper_double.specs.Double.{doubled}
use Rattle.paper_double_asking.specs.Ask.{double_asked, double_by_index}
use Rattle.exports_values.specs.Values.{reading_stored, power_in}
use Rattle.exports_parts.specs.Questions.{value_stored}
use Rattle.exports_places.specs.Walks.{given_stored}
use Rattle.exports_simple.specs.Doubles.{decimal_simple}

-- what a host hands over: the second number, the third, and the fourth as a power
abbrev pub of_numbers : List ℕ → Simple
of_numbers value = decimal_simple (not (eqb (get_or value 1 0) 0)) (get_or value 2 0) (power_in (get_or value 3 0))

-- of `x4_read_number`
abbrev pub StoredRead : Type 0
StoredRead =
    (l before : List ℕ) (d : Decimal) → (number_read l).reading ≡ Number d
    → of_numbers (reading_stored before (number_read l)) ≡ doubled (number_read l).reading

-- of `x4_value` and `x4_index_value`
abbrev pub StoredAsked : Type 0
StoredAsked =
    (s before : List ℕ) (n section : ℕ) (line : LineNo) (column : ℕ) (d : Decimal)
    → (value_asked s n section line column).value ≡ Number d
    → of_numbers (value_stored before (value_asked s n section line column)) ≡ (double_asked s n section line column).value

abbrev pub StoredByIndex : Type 0
StoredByIndex =
    (s index before : List ℕ) (n section : ℕ) (line : LineNo) (column : ℕ) (d : Decimal)
    → (value_by_index s index n section line column).value ≡ Number d
    → of_numbers (value_stored before (value_by_index s index n section line column))
    ≡ (double_by_index s index n section line column).value

-- of `x4_walk_next`, from a walk that `x4_walk` has made
abbrev pub StoredWalked : Type 0
StoredWalked =
    (s before : List ℕ) (n section : ℕ) → (start_of s n section).answer.number ≡ 0
    → (i : ℕ) (line : LineNo) (column : ℕ) (field : FieldRead) (d : Decimal)
    → given_at s (start_of s n section) i ≡ at_place line column field → field.reading ≡ Number d
    → of_numbers (given_stored before (given_at s (start_of s n section) i)) ≡ (double_asked s n section line column).value
