-- "each question is answered from the place it names": the answer is what stands in the asked line and column.
--
-- A place is told by the judge's walk alone: the role of its record, the subentry and the line in hand there, and how
-- many columns of the row stand before it.
use Rattle.std.specs.Prelude.{ℕ, ◌+◌, ◌-◌, ◌*◌, ◌/◌, ◌<◌, ◌≡◌, cond, List, eqb, length}
use Rattle.laws.specs.Blocks.{block_at}
use Rattle.paper_number.specs.Reading.{read_field}
use Rattle.paper_number.specs.Digits.{digit_count}
use Rattle.paper_questions.specs.declared.types.ValueAnswer.{ValueAnswer}
use Rattle.paper_record.specs.Fields.{field_at}
use Rattle.paper_record.specs.declared.types.LineNo.{LineNo}
use Rattle.paper_record.specs.Word.{pointer_of}
use Rattle.paper_rules.specs.Roles.{COMMON-HEADING, COMMON-UNIT, COMMON-VALUE, DATA-HEADING, DATA-UNIT, DATA-VALUE}
use Rattle.paper_entry.specs.Judging.{Accepted}
use Rattle.paper_entry.specs.Contexts.{context_at, role_at}
use Rattle.paper_questions.specs.declared.types.PartAnswer.{PartAnswer}
use Rattle.paper_questions.specs.Place.{COMMON-SECTION}
use Rattle.paper_questions.specs.Ask.{value_asked, heading_asked, unit_asked}
use Rattle.inside.specs.Inside.{InsideValue, InsideColumn}

-- ---- cells

-- the field k of the record with the index i
abbrev pub cell_at : List ℕ → ℕ → ℕ → List ℕ
cell_at s i k = field_at (block_at 81 s i) k

-- the field k of the record with the index i has this column of a row of the subentry n; the record has this role
pub record Cell (s : List ℕ) (n role column i k : ℕ) : Type 0 where
  pub there : i < length s / 81
  pub field : k < 6
  pub role_is : role_at s i ≡ role
  pub subentry : (context_at s i).track.subentry.number ≡ n
  pub column_is : column ≡ (context_at s i).track.table.columns - (context_at s i).track.table.rest + (k + 1)

-- ---- what is claimed of them

-- in COMMON the one role, in DATA the other
abbrev pub in_section : ℕ → ℕ → ℕ → ℕ
in_section section common others = cond (eqb section COMMON-SECTION) common others

-- a value is what such a cell in the asked line reads to, and the digits beside it are those written there
pub record ValueAt (s : List ℕ) (n role : ℕ) (line : LineNo) (column : ℕ) (answer : ValueAnswer) : Type 0 where
  pub i : ℕ
  pub k : ℕ
  pub cell : Cell s n role column i k
  pub in_line : (context_at s i).track.table.line.0 ≡ line.0
  pub says : answer.value ≡ read_field (cell_at s i k)
  pub counts : answer.digits ≡ digit_count (cell_at s i k)

abbrev pub ValuePlaced : Type 0
ValuePlaced =
    (s : List ℕ) (n section : ℕ) (line : LineNo) (column : ℕ) → Accepted s → InsideValue s n section line column
    → ValueAt s n (in_section section COMMON-VALUE DATA-VALUE) line column (value_asked s n section line column)

-- a heading is the first ten columns of such a cell, its pointer the eleventh
pub record HeadingAt (s : List ℕ) (n role column : ℕ) (part : PartAnswer) : Type 0 where
  pub i : ℕ
  pub k : ℕ
  pub cell : Cell s n role column i k
  pub first : part.first ≡ i * 81 + k * 11
  pub long : part.length ≡ 10
  pub pointer : part.pointer ≡ pointer_of (cell_at s i k)

abbrev pub HeadingPlaced : Type 0
HeadingPlaced =
    (s : List ℕ) (n section column : ℕ) → Accepted s → InsideColumn s n section column
    → HeadingAt s n (in_section section COMMON-HEADING DATA-HEADING) column (heading_asked s n section column)

-- a unit likewise, "the heading's pointer beside either"
pub record UnitAt (s : List ℕ) (n role column : ℕ) (part heading : PartAnswer) : Type 0 where
  pub i : ℕ
  pub k : ℕ
  pub cell : Cell s n role column i k
  pub first : part.first ≡ i * 81 + k * 11
  pub long : part.length ≡ 10
  pub pointer : part.pointer ≡ heading.pointer

abbrev pub UnitPlaced : Type 0
UnitPlaced =
    (s : List ℕ) (n section column : ℕ) → Accepted s → InsideColumn s n section column
    → UnitAt s n (in_section section COMMON-UNIT DATA-UNIT) column (unit_asked s n section column)
    (heading_asked s n section column)
