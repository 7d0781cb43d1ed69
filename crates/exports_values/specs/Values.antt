-- A number field as a call answers it: a word, and eight numbers in the lent array: the kind (0 blank, 1 number),
-- whether it is below zero (0, 1), the coefficient, the power of ten in two's complement, the count of digits written
-- (document 02, M-104), and three zeros.
use Rattle.std.specs.Prelude.{Bool, true, false, cond, List, [], ◌∷◌, ℕ, ◌-◌, ◌^◌, eqb, ltb, ℤ, pos, negsuc, get_or, replicate}
use Rattle.paper_number.specs.declared.types.Decimal.{Decimal}
use Rattle.paper_number.specs.declared.types.Reading.{Reading}
use Rattle.paper_number.specs.declared.types.Reading.TheVariants.{Blank, Number, Refused}
use Rattle.paper_number.specs.Value.{decimal}
use Rattle.paper_number.specs.declared.types.FieldRead.{FieldRead}
use Rattle.paper_entry.specs.declared.types.Answer.{Answer}
use Rattle.paper_entry.specs.Answer.{answer_of}
use Rattle.exports_words.specs.Words.{answer_in}

abbrev pub bit : Bool → ℕ
bit true = 1
bit false = 0

-- two's complement in 64 bits; `negsuc n` is -1 - n
abbrev pub twos : ℤ → ℕ
twos (pos n) = n
twos (negsuc n) = 2 ^ 64 - 1 - n

-- ---- the eight numbers

unfoldable pub value_numbers : Decimal → ℕ → List ℕ
value_numbers v digits =
    1 ∷ bit v.negative ∷ v.coefficient ∷ twos v.power ∷ digits ∷ 0 ∷ 0 ∷ 0 ∷ []

abbrev pub blank_numbers : List ℕ
blank_numbers = replicate 8 0

abbrev pub said_stored : List ℕ → ℕ → Reading → List ℕ
said_stored before digits Blank = blank_numbers
said_stored before digits (Number v) = value_numbers v digits
said_stored before digits (Refused n) = before

-- the array after the call: a refused field stores nothing
unfoldable pub reading_stored : List ℕ → FieldRead → List ℕ
reading_stored before field = said_stored before field.digits field.reading

-- the call's number, with zeros beside it
unfoldable pub reading_answer : Reading → Answer
reading_answer Blank = answer_of 0
reading_answer (Number v) = answer_of 0
reading_answer (Refused n) = answer_of n

-- ---- the reading that a word and an array say: what a host does with them

abbrev pub power_in : ℕ → ℤ
power_in w = cond (ltb w (2 ^ 63)) (pos w) (negsuc (2 ^ 64 - 1 - w))

abbrev pub value_in : List ℕ → Reading
value_in xs =
    cond (eqb (get_or xs 0 0) 0) Blank
    (Number (decimal (eqb (get_or xs 1 0) 1) (get_or xs 2 0) (power_in (get_or xs 3 0))))

-- beside a refusal no digit is counted
unfoldable pub reading_in : ℕ → List ℕ → FieldRead
reading_in w xs =
    cond (eqb (answer_in w).number 0) (record { reading = value_in xs; digits = get_or xs 4 0 })
    (record { reading = Refused (answer_in w).number; digits = 0 })
