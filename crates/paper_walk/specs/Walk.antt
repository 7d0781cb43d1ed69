-- Values in order (document 02, M-112):
--
--   "Provide a walker that keeps the entry and its place in it, giving the next value with line and column, left to
--   right and line by line, then saying it is done and staying so. [..] Refusals: 31 to 33 when it is made; a walker so
--   refused is done at once."
use Rattle.std.specs.Prelude.{ℕ, zero, suc, ◌+◌, Bool, true, false, cond, ◌&&◌, List, eqb, ltb, leb, Option, Some, None}
use Rattle.paper_number.specs.Digits.{field_read}
use Rattle.paper_number.specs.Reading.{answer as reading_said}
use Rattle.paper_number.specs.Value.{zero_decimal}
use Rattle.paper_number.specs.declared.types.Decimal.{Decimal}
use Rattle.paper_number.specs.declared.types.FieldRead.{FieldRead}
use Rattle.paper_record.specs.Places.{place_of}
use Rattle.paper_record.specs.Text.{within}
use Rattle.paper_record.specs.declared.types.RecordNo.{RecordNo}
use Rattle.paper_record.specs.declared.types.LineNo.{LineNo}
use Rattle.paper_rules.specs.Limits.{MOST-RECORDS, MOST-COLUMNS, MOST-LINES}
use Rattle.paper_entry.specs.declared.types.Answer.{Answer}
use Rattle.paper_entry.specs.declared.types.Verdict.{Verdict}
use Rattle.paper_entry.specs.Answer.{first_of, answer_of, answer_for}
use Rattle.paper_entry.specs.Judging.{judge_of}
use Rattle.paper_questions.specs.declared.types.Row.{Row}
use Rattle.paper_questions.specs.declared.types.Shape.{Shape}
use Rattle.paper_questions.specs.Row.{NONE}
use Rattle.paper_questions.specs.Located.{row_of}
use Rattle.paper_questions.specs.Place.{shape_of, field_of}
use Rattle.paper_questions.specs.Refused.{section_in, section_refusals}
use Rattle.paper_index.specs.Reads.{read_refusals, table_identifier}
use Rattle.paper_walk.specs.declared.types.Walk.{Walk}
use Rattle.paper_walk.specs.declared.types.Given.{Given}
use Rattle.paper_walk.specs.declared.types.Step.{Step}

abbrev pub line_no : ℕ → LineNo
line_no n = record { 0 = n }

-- ---- where a walk begins

-- "a walker so refused is done at once": there is no line
abbrev pub done_walk : Answer → Walk
done_walk a = record { answer = a; section = NONE; columns = 0; lines = 0; line = line_no 1; column = 1 }

-- the first place of a table
abbrev pub walk_from : RecordNo → Shape → Walk
walk_from at shape =
    record {
      answer = answer_of 0;
      section = at;
      columns = shape.columns;
      lines = shape.lines;
      line = line_no 1;
      column = 1;
    }

-- "Refusals: 31 to 33 when it is made": as a question for a value, without line and column
unfoldable pub start_by : List ℕ → Verdict → Row → ℕ → Walk
start_by s v x section =
    let at = section_in x section in
    let number = first_of (section_refusals s v x at) in
    cond (eqb number 0) (walk_from at (shape_of s section at)) (done_walk (answer_for v number))

unfoldable pub start_of : List ℕ → ℕ → ℕ → Walk
start_of s n section = start_by s (judge_of s) (row_of s n) section

-- from a row of any numbers, as an index has it: 32, 33 or 39
unfoldable pub start_from_row : List ℕ → Row → ℕ → Walk
start_from_row s x section =
    let at = section_in x section in
    let number = first_of (read_refusals s x at (table_identifier section)) in
    cond (eqb number 0) (walk_from at (shape_of s section at)) (done_walk (answer_of number))

-- ---- one place on

-- it stands at a place of its table, which is no larger than a table can be; otherwise it is done
unfoldable pub stands : Walk → Bool
stands w =
    leb w.section.0 MOST-RECORDS
    && (leb w.columns MOST-COLUMNS
    && (leb w.lines MOST-LINES && (within 1 w.lines w.line.0 && within 1 w.columns w.column)))

-- the same walk at another place
abbrev pub placed_at : Walk → LineNo → ℕ → Walk
placed_at w line column =
    record {
      answer = w.answer;
      section = w.section;
      columns = w.columns;
      lines = w.lines;
      line = line;
      column = column;
    }

-- "left to right and line by line"
unfoldable pub onward : Walk → Walk
onward w =
    cond (ltb w.column w.columns) (placed_at w w.line (w.column + 1))
    (placed_at w (line_no (w.line.0 + 1)) 1)

-- the field at the place that comes next
abbrev pub field_next : List ℕ → Walk → List ℕ
field_next s w = field_of s (place_of w.section w.columns w.line w.column)

-- a value that is given, with its line and column; done is `None`
abbrev pub at_place : LineNo → ℕ → FieldRead → Option Given
at_place line column field = Some (record { line = line; column = column; field = field })

-- "giving the next value with line and column [..] then saying it is done and staying so"
unfoldable pub step_of : List ℕ → Walk → Step
step_of s w =
    cond (stands w)
    (record { walk = onward w; given = at_place w.line w.column (field_read (field_next s w)) })
    (record { walk = w; given = None })

-- ---- what all of a walk gives

-- where the walk stands after so many steps, and what the step after them gives
unfoldable pub after : List ℕ → Walk → ℕ → Walk
after s w zero = w
after s w (suc i) = (step_of s (after s w i)).walk

abbrev pub given_at : List ℕ → Walk → ℕ → Option Given
given_at s w i = (step_of s (after s w i)).given

-- ---- document 01's number and values for each case of what is given; 15 would stand for a malformed field, and over an
-- accepted entry none is given (`walk-said`)

pub record GivenSaid : Type 0 where
  pub done : Bool
  pub line : ℕ
  pub column : ℕ
  pub refusal : ℕ
  pub blank : Bool
  pub decimal : Decimal
  pub digits : ℕ

abbrev pub given_said : Option Given → GivenSaid
given_said (Some g) =
    let said = reading_said g.field.reading in
    record {
      done = false;
      line = g.line.0;
      column = g.column;
      refusal = said.refusal;
      blank = said.blank;
      decimal = said.value;
      digits = g.field.digits;
    }
given_said None =
    record { done = true; line = 0; column = 0; refusal = 0; blank = true; decimal = zero_decimal; digits = 0 }
