-- What is claimed of calls about doubles: the word that a call returns and the place that is lent to it say the answer, for
-- every entry, every index, every field, all arguments and whatever stood in the place; with the decimal that the value call
-- stores they say all of it. Each type is that of a law in proofs/DoubleBack, under the law's name.
use Rattle.std.specs.Prelude.{ℕ, ◌/◌, ◌%◌, ◌^◌, ◌≡◌, cond, List, eqb, length, get_or, Float}
use Rattle.paper_number.specs.declared.types.Reading.{Reading}
use Rattle.paper_number.specs.declared.types.FieldRead.{FieldRead}
use Rattle.paper_number.specs.Reading.{answer as reading_said}
use Rattle.paper_number.specs.Digits.{number_read}
use Rattle.paper_record.specs.declared.types.LineNo.{LineNo}
use Rattle.paper_entry.specs.declared.types.Answer.{Answer}
use Rattle.paper_questions.specs.Ask.{value_asked}
use Rattle.paper_index.specs.ByIndex.{value_by_index}
use Rattle.paper_double.specs.declared.types.Simple.{Simple}
use Rattle.paper_double.specs.declared.types.Simple.TheVariants.{Blank, Double, Outside}
use Rattle.paper_double_asking.specs.declared.types.DoubleAnswer.{DoubleAnswer}
use Rattle.paper_double.specs.Double.{doubled, plus_zero, simple_said}
use Rattle.paper_double_asking.specs.Ask.{double_asked, double_by_index}
use Rattle.exports_words.specs.Words.{answer_word, answer_in}
use Rattle.exports_values.specs.Values.{reading_answer, reading_stored, reading_in}
use Rattle.exports_parts.specs.Questions.{value_answer, value_stored, value_answer_in}
use Rattle.exports_simple.specs.Doubles.{double_word, field_word, double_stored}

-- ---- what a host does with a word

-- number, refusal, record and column stand where they stand in every word; about a single entry there is no ordinal
abbrev pub beside_in : ℕ → Answer
beside_in w =
    record {
      number = (answer_in w).number;
      refusal = (answer_in w).refusal;
      «record» = (answer_in w).«record»;
      column = (answer_in w).column;
      ordinal = 0;
    }

-- in bits 48 to 55 which of the three it is, in 56 to 63 the digits written
abbrev pub kind_in : ℕ → ℕ
kind_in w = w / 2 ^ 48 % 2 ^ 8

abbrev pub digits_in : ℕ → ℕ
digits_in w = w / 2 ^ 56 % 2 ^ 8

-- what a host finds in the lent place
abbrev pub stored_in : List Float → Float
stored_in place = get_or place 0 plus_zero

-- ---- the word w, and the lent place before and after the call, say the answer a

pub record CallSays (w : ℕ) (before after : List Float) (a : DoubleAnswer) : Type 0 where
  pub answered : beside_in w ≡ a.answer
  pub kind : kind_in w ≡ (simple_said a.value).kind
  pub counted : digits_in w ≡ a.digits
  pub blank : kind_in w ≡ 0 → a.value ≡ Blank
  pub double : kind_in w ≡ 1 → (length after ≡ 1) × (a.value ≡ Double (stored_in after))
  -- where the word says no double the place is as it was, and so it is beside every refusal
  pub kept : (kind_in w ≡ 1 → ⊥) → after ≡ before
  pub refused : ((beside_in w).number ≡ 0 → ⊥) → after ≡ before

abbrev pub DoubleBack : Type 0
DoubleBack =
    (s : List ℕ) (before : List Float) (n section : ℕ) (line : LineNo) (column : ℕ)
    → let a = double_asked s n section line column in
    CallSays (double_word a) before (double_stored before a.value) a

abbrev pub IndexDoubleBack : Type 0
IndexDoubleBack =
    (s t : List ℕ) (before : List Float) (n section : ℕ) (line : LineNo) (column : ℕ)
    → let a = double_by_index s t n section line column in
    CallSays (double_word a) before (double_stored before a.value) a

-- a field's reading, its number as a double
abbrev pub field_answer : FieldRead → DoubleAnswer
field_answer f = record { answer = reading_answer f.reading; value = doubled f.reading; digits = f.digits }

abbrev pub FieldDoubleBack : Type 0
FieldDoubleBack =
    (l : List ℕ) (before : List Float)
    → let a = field_answer (number_read l) in
    CallSays (field_word (number_read l)) before (double_stored before a.value) a

-- ---- nothing is lost: the decimal outside the simple range is the one that the value call of the same arguments stores

-- by the kind, the double found in the lent place and what the value call says
abbrev pub simple_by : ℕ → Float → Reading → Simple
simple_by kind x r = cond (eqb kind 1) (Double x) (cond (eqb kind 2) (Outside (reading_said r).value) Blank)

abbrev pub double_answer_in : ℕ → List Float → Reading → DoubleAnswer
double_answer_in w place r =
    record { answer = beside_in w; value = simple_by (kind_in w) (stored_in place) r; digits = digits_in w }

abbrev pub DoubleWhole : Type 0
DoubleWhole =
    (s before : List ℕ) (old : List Float) (n section : ℕ) (line : LineNo) (column : ℕ)
    → let a = double_asked s n section line column in
    let v = value_asked s n section line column in
    double_answer_in (double_word a) (double_stored old a.value)
    (value_answer_in (answer_word (value_answer v)) (value_stored before v)).value
    ≡ a

abbrev pub IndexDoubleWhole : Type 0
IndexDoubleWhole =
    (s t before : List ℕ) (old : List Float) (n section : ℕ) (line : LineNo) (column : ℕ)
    → let a = double_by_index s t n section line column in
    let v = value_by_index s t n section line column in
    double_answer_in (double_word a) (double_stored old a.value)
    (value_answer_in (answer_word (value_answer v)) (value_stored before v)).value
    ≡ a

abbrev pub FieldDoubleWhole : Type 0
FieldDoubleWhole =
    (l before : List ℕ) (old : List Float)
    → let f = number_read l in
    double_answer_in (field_word f) (double_stored old (doubled f.reading))
    (reading_in (answer_word (reading_answer f.reading)) (reading_stored before f)).reading
    ≡ field_answer f
