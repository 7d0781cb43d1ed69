-- Doubles as calls give them (document 02, M-107): a call returns the word of its answer, which also tells which of the
-- three it is, and stores the double where there is one. A decimal in hand is given by value, +0.0 where it is none.
use Rattle.std.specs.Prelude.{ℕ, ◌+◌, ◌*◌, ◌^◌, Bool, not, ◌&&◌, List, [], ◌∷◌, ℤ, eqb, Float}
use Rattle.paper_number.specs.Value.{decimal}
use Rattle.paper_number.specs.declared.types.Reading.TheVariants.{Number}
use Rattle.paper_number.specs.declared.types.FieldRead.{FieldRead}
use Rattle.paper_entry.specs.declared.types.Answer.{Answer}
use Rattle.paper_double.specs.declared.types.Simple.{Simple}
use Rattle.paper_double.specs.declared.types.Simple.TheVariants.{Blank, Double, Outside}
use Rattle.paper_double_asking.specs.declared.types.DoubleAnswer.{DoubleAnswer}
use Rattle.paper_double.specs.Double.{doubled, simple_said}
use Rattle.exports_words.specs.Words.{answer_word}
use Rattle.exports_values.specs.Values.{reading_answer}

-- the double, +0.0 where it is none
abbrev pub double_in : Simple → Float
double_in x = (simple_said x).double

-- the word of an answer; about a single entry no ordinal stands in its bits 48 to 63: in 48 to 55 stands which of the three
-- it is (0 blank, 1 a double, 2 a decimal outside the simple range), in 56 to 63 how many digits are written in the field
abbrev pub word_with : Answer → Simple → ℕ → ℕ
word_with a x digits =
    answer_word
    (record {
      number = a.number;
      refusal = a.refusal;
      «record» = a.«record»;
      column = a.column;
      ordinal = (simple_said x).kind + 2 ^ 8 * digits;
    })

abbrev pub double_word : DoubleAnswer → ℕ
double_word a = word_with a.answer a.value a.digits

-- of a number field
abbrev pub field_word : FieldRead → ℕ
field_word f = word_with (reading_answer f.reading) (doubled f.reading) f.digits

-- of a decimal in hand, as `x4_write_number` takes one. "Zero is (no, 0, 0), however signed": it is never below zero
abbrev pub decimal_simple : Bool → ℕ → ℤ → Simple
decimal_simple negative coefficient power =
    doubled (Number (decimal (negative && not (eqb coefficient 0)) coefficient power))

-- the lent place after a call: the double where there is one, else what stood there
abbrev pub double_stored : List Float → Simple → List Float
double_stored before Blank = before
double_stored before (Double x) = x ∷ []
double_stored before (Outside d) = before
