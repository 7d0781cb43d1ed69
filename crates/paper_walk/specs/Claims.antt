-- What is claimed of a walk (document 02, M-112):
--
--   "Over an accepted entry it gives each place of one table once, equal to the value question there."
--
-- A walk that was made with the number 0 is over an accepted entry (`StartAnswer`). Each type is that of a law under the
-- law's name, in proofs/ here or in walk_laws; `WalkSaid` stands there.
use Rattle.std.specs.Prelude.{ℕ, ◌+◌, ◌-◌, ◌*◌, ◌<◌, ◌≤◌, ◌≡◌, cond, List, ◌↔◌, ◌⊎◌, eqb, length, None}
use Rattle.paper_number.specs.Digits.{field_read}
use Rattle.paper_number.specs.declared.types.FieldRead.{FieldRead}
use Rattle.paper_number.specs.declared.types.Reading.TheVariants.{Blank}
use Rattle.paper_record.specs.Places.{place_of}
use Rattle.paper_record.specs.declared.types.LineNo.{LineNo}
use Rattle.paper_entry.specs.declared.types.Verdict.{Verdict}
use Rattle.paper_entry.specs.Answer.{first_of, answer_of, answer_for}
use Rattle.paper_entry.specs.Judging.{judge_of}
use Rattle.paper_questions.specs.declared.types.Row.{Row}
use Rattle.paper_questions.specs.declared.types.Shape.{Shape}
use Rattle.paper_questions.specs.Located.{row_of}
use Rattle.paper_questions.specs.Place.{field_of}
use Rattle.paper_questions.specs.Refused.{InShape, section_in, section_refusals}
use Rattle.paper_questions.specs.Ask.{value_asked}
use Rattle.paper_index.specs.Asked.{no_row}
use Rattle.paper_index.specs.Reads.{read_refusals, table_identifier}
use Rattle.paper_index.specs.TableAnswers.{value_from_row}
use Rattle.paper_walk.specs.declared.types.Walk.{Walk}
use Rattle.paper_walk.specs.Walk.{done_walk, start_of, start_from_row, step_of, after, given_at, at_place}

-- ---- places

-- the walk's table
abbrev pub shape_in : Walk → Shape
shape_in w = record { columns = w.columns; lines = w.lines }

-- a place of it
abbrev pub PlaceIn : Walk → LineNo → ℕ → Type 0
PlaceIn w line column = InShape (shape_in w) line column

-- how many stand before it, left to right and line by line
abbrev pub places_before : Walk → LineNo → ℕ → ℕ
places_before w line column = (line.0 - 1) * w.columns + (column - 1)

-- a place in an earlier line than another, or in the same line left of it
abbrev pub Before : LineNo → ℕ → LineNo → ℕ → Type 0
Before line column line2 column2 = (line.0 < line2.0) ⊎ ((line.0 ≡ line2.0) × (column < column2))

-- what the field there says
abbrev pub field_there : List ℕ → Walk → LineNo → ℕ → FieldRead
field_there s w line column = field_read (field_of s (place_of w.section w.columns line column))

-- what the value question says of a place, beside its number
abbrev pub value_there : List ℕ → ℕ → ℕ → LineNo → ℕ → FieldRead
value_there s n section line column =
    let v = value_asked s n section line column in
    record { reading = v.value; digits = v.digits }

-- the same by a row
abbrev pub value_by_row : List ℕ → Row → ℕ → LineNo → ℕ → FieldRead
value_by_row s x section line column =
    let v = value_from_row s x section line column in
    record { reading = v.value; digits = v.digits }

-- ---- a walk that is made

-- its answer is that of a question for a value as far as the section: 31, 32, 33 or 0
abbrev pub StartAnswer : Type 0
StartAnswer =
    (s : List ℕ) (n section : ℕ)
    → (start_of s n section).answer
    ≡ answer_for (judge_of s) (first_of (section_refusals s (judge_of s) (row_of s n) (section_in (row_of s n) section)))

-- "Refusals: 31 to 33 when it is made": a refused one has the value question's answer, whatever line and column are asked
abbrev pub StartRefused : Type 0
StartRefused =
    (s : List ℕ) (n section : ℕ) (line : LineNo) (column : ℕ) → ((start_of s n section).answer.number ≡ 0 → ⊥)
    → (start_of s n section).answer ≡ (value_asked s n section line column).answer

-- and where it is not refused the value question is, if at all, by its line or its column
abbrev pub StartMade : Type 0
StartMade =
    (s : List ℕ) (n section : ℕ) (line : LineNo) (column : ℕ) → (start_of s n section).answer.number ≡ 0
    → let number = (value_asked s n section line column).answer.number in
    (number ≡ 0) ⊎ ((number ≡ 34) ⊎ (number ≡ 35))

-- the places of its table are those at which the value question is answered
abbrev pub WalkPlaces : Type 0
WalkPlaces =
    (s : List ℕ) (n section : ℕ) → (start_of s n section).answer.number ≡ 0 → (line : LineNo) (column : ℕ)
    → ((value_asked s n section line column).answer.number ≡ 0) ↔ PlaceIn (start_of s n section) line column

-- each is given in its turn, with the question's value and count of digits
abbrev pub WalkGives : Type 0
WalkGives =
    (s : List ℕ) (n section : ℕ) → (start_of s n section).answer.number ≡ 0 → (line : LineNo) (column : ℕ)
    → PlaceIn (start_of s n section) line column
    → given_at s (start_of s n section) (places_before (start_of s n section) line column)
    ≡ at_place line column (value_there s n section line column)

-- in no other turn, and nothing else is given
abbrev pub WalkOnce : Type 0
WalkOnce =
    (s : List ℕ) (n section : ℕ) → (start_of s n section).answer.number ≡ 0
    → (i : ℕ) (line : LineNo) (column : ℕ) (field : FieldRead) → given_at s (start_of s n section) i ≡ at_place line column field
    → (i ≡ places_before (start_of s n section) line column) × PlaceIn (start_of s n section) line column

-- "then saying it is done and staying so": behind the last place, for ever
abbrev pub WalkEnds : Type 0
WalkEnds =
    (s : List ℕ) (n section j : ℕ)
    → given_at s (start_of s n section) ((start_of s n section).lines * (start_of s n section).columns + j) ≡ None

-- "a walker so refused is done at once"
abbrev pub WalkRefused : Type 0
WalkRefused =
    (s : List ℕ) (n section : ℕ) → ((start_of s n section).answer.number ≡ 0 → ⊥)
    → (i : ℕ) → given_at s (start_of s n section) i ≡ None

-- ---- any walk, over any bytes

-- a table no larger than one can be: 20,000 records, 18 columns, 20,000 lines
pub record Fits (w : Walk) : Type 0 where
  pub section : w.section.0 ≤ 20000
  pub columns : w.columns ≤ 18
  pub lines : w.lines ≤ 20000

-- a walk at a place of such a table
pub record Standing (w : Walk) : Type 0 where
  pub fits : Fits w
  pub place : PlaceIn w w.line w.column

-- exactly then it is not done
abbrev pub AnyExactly : Type 0
AnyExactly = (s : List ℕ) (w : Walk) → ((step_of s w).given ≡ None → ⊥) ↔ Standing w

-- it gives its own place, then each behind it, with what the field there says
abbrev pub AnyGives : Type 0
AnyGives =
    (s : List ℕ) (w : Walk) → Standing w → (line : LineNo) (column : ℕ) → PlaceIn w line column
    → (i : ℕ) → places_before w w.line w.column + i ≡ places_before w line column
    → given_at s w i ≡ at_place line column (field_there s w line column)

-- in no other turn, and nothing else
abbrev pub AnyOnce : Type 0
AnyOnce =
    (s : List ℕ) (w : Walk) (i : ℕ) (line : LineNo) (column : ℕ) (field : FieldRead) → given_at s w i ≡ at_place line column field
    → (places_before w w.line w.column + i ≡ places_before w line column) × PlaceIn w line column

-- "left to right and line by line"
abbrev pub WalkOrder : Type 0
WalkOrder =
    (s : List ℕ) (w : Walk) (i j : ℕ) (line line2 : LineNo) (column column2 : ℕ) (field field2 : FieldRead)
    → given_at s w i ≡ at_place line column field → given_at s w j ≡ at_place line2 column2 field2
    → (i < j) ↔ Before line column line2 column2

-- a place whose record ends behind the last byte is given as blank
abbrev pub OutsideBlank : Type 0
OutsideBlank =
    (s : List ℕ) (w : Walk) (i : ℕ) (line : LineNo) (column : ℕ) (field : FieldRead) → given_at s w i ≡ at_place line column field
    → length s < (place_of w.section w.columns line column).at.0 * 81
    → field ≡ record { reading = Blank; digits = 0 }

-- it ends, after as many steps as its table has places at the most
abbrev pub AnyEnds : Type 0
AnyEnds = (s : List ℕ) (w : Walk) (j : ℕ) → given_at s w (w.lines * w.columns + j) ≡ None

-- "saying it is done and staying so": a step that gives nothing changes nothing
abbrev pub DoneStays : Type 0
DoneStays = (s : List ℕ) (w : Walk) → (step_of s w).given ≡ None → (step_of s w).walk ≡ w

-- whatever is given, a walk keeps its answer and its table
abbrev pub WalkKeeps : Type 0
WalkKeeps =
    (s : List ℕ) (w : Walk) (i : ℕ)
    → ((after s w i).answer ≡ w.answer) × (((after s w i).section ≡ w.section)
    × (((after s w i).columns ≡ w.columns) × ((after s w i).lines ≡ w.lines)))

-- ---- a walk from a row of any numbers

-- its answer is that of a question by this row as far as the section: 32, 33, 39 or 0, and zeros beside it
abbrev pub RowAnswer : Type 0
RowAnswer =
    (s : List ℕ) (x : Row) (section : ℕ)
    → (start_from_row s x section).answer
    ≡ answer_of (first_of (read_refusals s x (section_in x section) (table_identifier section)))

-- refused it is done at once
abbrev pub RowRefused : Type 0
RowRefused =
    (s : List ℕ) (x : Row) (section : ℕ) → ((start_from_row s x section).answer.number ≡ 0 → ⊥)
    → (i : ℕ) → given_at s (start_from_row s x section) i ≡ None

-- the places of its table are those that the question by this row does not refuse by their line or their column
abbrev pub RowPlaces : Type 0
RowPlaces =
    (s : List ℕ) (x : Row) (section : ℕ) → (start_from_row s x section).answer.number ≡ 0
    → (line : LineNo) (column : ℕ)
    → let number = (value_from_row s x section line column).answer.number in
    ((number ≡ 34 → ⊥) × (number ≡ 35 → ⊥)) ↔ PlaceIn (start_from_row s x section) line column

-- where that question is answered, its value is given in its turn
abbrev pub RowGives : Type 0
RowGives =
    (s : List ℕ) (x : Row) (section : ℕ) (line : LineNo) (column : ℕ)
    → (value_from_row s x section line column).answer.number ≡ 0
    → given_at s (start_from_row s x section) (places_before (start_from_row s x section) line column)
    ≡ at_place line column (value_by_row s x section line column)

-- ---- one body: a walk is made from the row, by the same reads as every question

abbrev pub start_found : Verdict → Row → Walk → Walk
start_found v x w = cond (eqb (no_row v x) 0) w (done_walk (answer_for v (no_row v x)))

abbrev pub StartByRow : Type 0
StartByRow =
    (s : List ℕ) (n section : ℕ)
    → start_of s n section ≡ start_found (judge_of s) (row_of s n) (start_from_row s (row_of s n) section)
