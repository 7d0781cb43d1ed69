-- The value questions with their values as doubles: "Give each value as blank, a double, or a decimal [..]. Refusals: as
-- for the value question."
use Rattle.std.specs.Prelude.{ℕ, List}
use Rattle.paper_record.specs.declared.types.LineNo.{LineNo}
use Rattle.paper_questions.specs.declared.types.Row.{Row}
use Rattle.paper_questions.specs.declared.types.ValueAnswer.{ValueAnswer}
use Rattle.paper_questions.specs.Ask.{value_asked}
use Rattle.paper_index.specs.TableAnswers.{value_from_row}
use Rattle.paper_index.specs.ByIndex.{value_by_index}
use Rattle.paper_double.specs.Double.{SimpleSaid, doubled, simple_said}
use Rattle.paper_double_asking.specs.declared.types.DoubleAnswer.{DoubleAnswer}

-- the value question's answer with its value as a double, the count of digits beside it as it is
abbrev pub as_double : ValueAnswer → DoubleAnswer
as_double v = record { answer = v.answer; value = doubled v.value; digits = v.digits }

unfoldable pub double_asked : List ℕ → ℕ → ℕ → LineNo → ℕ → DoubleAnswer
double_asked s n section line column = as_double (value_asked s n section line column)

-- from a row of any numbers, and by an index
unfoldable pub double_from_row : List ℕ → Row → ℕ → LineNo → ℕ → DoubleAnswer
double_from_row s x section line column = as_double (value_from_row s x section line column)

unfoldable pub double_by_index : List ℕ → List ℕ → ℕ → ℕ → LineNo → ℕ → DoubleAnswer
double_by_index s index n section line column = as_double (value_by_index s index n section line column)

-- document 01's number for the answer, and the values of each case
pub record DoubleSaid : Type 0 where
  pub number : ℕ
  pub said : SimpleSaid
  pub digits : ℕ

abbrev pub double_said : DoubleAnswer → DoubleSaid
double_said a = record { number = a.answer.number; said = simple_said a.value; digits = a.digits }
