-- The answer to a question for a value, by the verdict on the entry and the row of the subentry (document 01, "Refusal
-- numbers and their order"):
--
--   "Value gives blank or number. [..] a refused value is blank beside its number. COMMON has line 1 only; [..]"
use Rattle.std.specs.Prelude.{ℕ, Bool, true, cond, List, eqb}
use Rattle.paper_record.specs.Places.{place_of}
use Rattle.paper_record.specs.declared.types.LineNo.{LineNo}
use Rattle.paper_number.specs.Value.{zero_decimal}
use Rattle.paper_number.specs.Reading.{answer as reading_said}
use Rattle.paper_number.specs.declared.types.Decimal.{Decimal}
use Rattle.paper_number.specs.declared.types.Reading.TheVariants.{Blank}
use Rattle.paper_number.specs.declared.types.FieldRead.{FieldRead}
use Rattle.paper_number.specs.Digits.{field_read}
use Rattle.paper_entry.specs.declared.types.Verdict.{Verdict}
use Rattle.paper_entry.specs.Answer.{answer_for}
use Rattle.paper_questions.specs.declared.types.Row.{Row}
use Rattle.paper_questions.specs.declared.types.ValueAnswer.{ValueAnswer}
use Rattle.paper_questions.specs.Place.{shape_of, field_of}
use Rattle.paper_questions.specs.Refused.{section_in, value_refusal}

-- "a refused value is blank beside its number", and no digit is counted there. Document 02, M-104: "Value lookup passes it
-- on": the count of digits that the field's reading tells
abbrev pub value_with : Verdict → ℕ → FieldRead → ValueAnswer
value_with v number field =
    record {
      answer = answer_for v number;
      value = cond (eqb number 0) field.reading Blank;
      digits = cond (eqb number 0) field.digits 0;
    }

-- "Value gives blank or number": that an answered one is never malformed is the law `answered-said`
unfoldable pub value_by : List ℕ → Verdict → Row → ℕ → LineNo → ℕ → ValueAnswer
value_by s v x section line column =
    let at = section_in x section in
    let shape = shape_of s section at in
    value_with v (value_refusal s v x at shape line column)
    (field_read (field_of s (place_of at shape.columns line column)))

-- document 01's number and values for each answer about a value, whatever case its reading is. Beside another number
-- than 0 it is blank (`refused-said`); 15 would stand for a malformed field, and no answered one is (`answered-said`)
pub record ValueSaid : Type 0 where
  pub number : ℕ
  pub blank : Bool
  pub decimal : Decimal
  pub digits : ℕ

abbrev pub value_said : ValueAnswer → ValueSaid
value_said v =
    let field = reading_said v.value in
    record {
      number = cond (eqb v.answer.number 0) field.refusal v.answer.number;
      blank = field.blank;
      decimal = field.value;
      digits = v.digits;
    }

-- "a refused value is blank beside its number"
abbrev pub blank_beside : ℕ → ValueSaid
blank_beside number = record { number = number; blank = true; decimal = zero_decimal; digits = 0 }
