-- What is read where a question to any bytes by any row is answered (document 02, M-102), in the papers' own words: of
-- numbers and columns, and of places as they are worked out for every question (`place_of`, `heading_place`, `unit_place`).
--
-- The definitions of paper_index compute, and give 39 where a read is not good. That nothing weaker and nothing stronger
-- is good is stated here (`ValueReadExactly` ..), and what is then handed back (`ValueReadSays` ..); proved in
-- proofs/PlainAnswers.
use Rattle.std.specs.Prelude.{ℕ, ◌+◌, ◌*◌, ◌-◌, ◌≤◌, ◌≡◌, ◌↔◌, List, eqb, length}
use Rattle.laws.specs.Blocks.{block_at}
use Rattle.paper_number.specs.Reading.{read_field}
use Rattle.paper_number.specs.Digits.{digit_count}
use Rattle.paper_record.specs.Fields.{field_at}
use Rattle.paper_record.specs.Identifier.{SUBENT, BIB, COMMON, DATA}
use Rattle.paper_record.specs.Places.{records_for, place_of}
use Rattle.paper_record.specs.Word.{pointer_of}
use Rattle.paper_record.specs.Plain.{Word, UnitWord, PointerOrBlank, CountSays, SubentN1, NumberOrBlank}
use Rattle.paper_record.specs.PlainNames.{Named}
use Rattle.paper_record.specs.declared.types.LineNo.{LineNo}
use Rattle.paper_record.specs.declared.types.Place.{Place}
use Rattle.paper_record.specs.declared.types.RecordNo.{RecordNo}
use Rattle.paper_entry.specs.Answer.{answer_of}
use Rattle.paper_questions.specs.declared.types.Row.{Row}
use Rattle.paper_questions.specs.declared.types.ValueAnswer.{ValueAnswer}
use Rattle.paper_questions.specs.declared.types.PartAnswer.{PartAnswer}
use Rattle.paper_questions.specs.Place.{heading_place, unit_place}
use Rattle.paper_index.specs.TableAnswers.{value_from_row, heading_from_row, unit_from_row}

-- ---- a record

-- it does not lie outside the entry: of at most 20,000 records, and these eighty-one bytes are there
pub record LiesIn (s : List ℕ) (at : RecordNo) : Type 0 where
  pub from : 1 ≤ at.0
  pub to : at.0 ≤ 20000
  pub held : at.0 * 81 ≤ length s

-- its field k
abbrev pub field_in : List ℕ → RecordNo → ℕ → List ℕ
field_in s at k = field_at (block_at 81 s (at.0 - 1)) k

-- ---- the subentry's first record: SUBENT with the row's number, 001 to 998

pub record SubentRead (s : List ℕ) (x : Row) : Type 0 where
  pub lies : LiesIn s x.first
  pub named : Named (field_in s x.first 0) SUBENT
  pub number : SubentN1 (field_in s x.first 1) x.number
  pub from : 1 ≤ x.number
  pub to : x.number ≤ 998

-- ---- the section's record: its identifier, and both counts in form and range

-- "keywords, at least 1; records, at least N1"; "columns, 1-18", "COMMON has exactly 3k records"; "lines, 1-20,000"
pub data InRange (identifier a b : ℕ) : Type 0 where
  of_bib : identifier ≡ BIB → 1 ≤ a → a ≤ b → InRange identifier a b
  of_common : identifier ≡ COMMON → 1 ≤ a → a ≤ 18 → b ≡ 3 * records_for a → InRange identifier a b
  of_data : identifier ≡ DATA → 1 ≤ a → a ≤ 18 → 1 ≤ b → b ≤ 20000 → InRange identifier a b

pub record SectionThere (s : List ℕ) (at : RecordNo) (identifier a b : ℕ) : Type 0 where
  pub lies : LiesIn s at
  pub named : Named (field_in s at 0) identifier
  pub first : CountSays 11 (field_in s at 1) a
  pub second : CountSays 11 (field_in s at 2) b
  pub range : InRange identifier a b

-- "1 COMMON, 2 DATA": the record that the row names, with so many columns and lines; "COMMON has line 1 only"
pub data TableRead (s : List ℕ) (x : Row) (section : ℕ) (at : RecordNo) (columns lines : ℕ) : Type 0 where
  table_common : section ≡ 1 → at ≡ x.common → lines ≡ 1 → (records : ℕ) → SectionThere s at COMMON columns records
      → TableRead s x section at columns lines
  table_data : section ≡ 2 → at ≡ x.«data» → SectionThere s at DATA columns lines
      → TableRead s x section at columns lines

-- a column of that table
pub record ColumnRead (s : List ℕ) (x : Row) (section column : ℕ) : Type 0 where
  pub subent : SubentRead s x
  pub at : RecordNo
  pub columns : ℕ
  pub lines : ℕ
  pub table : TableRead s x section at columns lines
  pub from : 1 ≤ column
  pub to : column ≤ columns

-- ---- the asked field

-- "COMMON values are never blank. DATA values may be"
pub record ValueRead (s : List ℕ) (x : Row) (section : ℕ) (line : LineNo) (column : ℕ) : Type 0 where
  pub inside : ColumnRead s x section column
  pub line_from : 1 ≤ line.0
  pub line_to : line.0 ≤ inside.lines
  pub lies : LiesIn s (place_of inside.at inside.columns line column).at
  pub value :
      NumberOrBlank (eqb section 2)
      (field_in s (place_of inside.at inside.columns line column).at
      (place_of inside.at inside.columns line column).field)

-- "A heading is a word in ten columns, with a pointer or blank in the eleventh."
pub record HeadingField (s : List ℕ) (p : Place) : Type 0 where
  pub lies : LiesIn s p.at
  pub word : Word 10 (field_in s p.at p.field)
  pub pointer : PointerOrBlank (pointer_of (field_in s p.at p.field))

pub record HeadingRead (s : List ℕ) (x : Row) (section column : ℕ) : Type 0 where
  pub inside : ColumnRead s x section column
  pub heading : HeadingField s (heading_place inside.at column)

-- "A unit is a word in ten columns, eleventh blank."; the heading's pointer is handed back beside it
pub record UnitRead (s : List ℕ) (x : Row) (section column : ℕ) : Type 0 where
  pub inside : ColumnRead s x section column
  pub heading : HeadingField s (heading_place inside.at column)
  pub lies : LiesIn s (unit_place inside.at inside.columns column).at
  pub word :
      UnitWord
      (field_in s (unit_place inside.at inside.columns column).at
      (unit_place inside.at inside.columns column).field)

-- ---- what stands there

-- the value that the field reads to, and the digits written there
abbrev pub said_at : List ℕ → Place → ValueAnswer
said_at s p =
    record {
      answer = answer_of 0;
      value = read_field (field_in s p.at p.field);
      digits = digit_count (field_in s p.at p.field);
    }

-- ten columns of the field, by their first byte, with this pointer beside them
abbrev pub ten_at : Place → ℕ → PartAnswer
ten_at p pointer =
    record {
      answer = answer_of 0;
      first = (p.at.0 - 1) * 81 + p.field * 11;
      length = 10;
      pointer = pointer;
    }

abbrev pub pointer_at : List ℕ → Place → ℕ
pointer_at s p = pointer_of (field_in s p.at p.field)

-- ---- that the computing definitions say the same

abbrev pub ValueReadExactly : Type 0
ValueReadExactly =
    (s : List ℕ) (x : Row) (section : ℕ) (line : LineNo) (column : ℕ)
    → ((value_from_row s x section line column).answer.number ≡ 0) ↔ ValueRead s x section line column

abbrev pub HeadingReadExactly : Type 0
HeadingReadExactly =
    (s : List ℕ) (x : Row) (section column : ℕ)
    → ((heading_from_row s x section column).answer.number ≡ 0) ↔ HeadingRead s x section column

abbrev pub UnitReadExactly : Type 0
UnitReadExactly =
    (s : List ℕ) (x : Row) (section column : ℕ)
    → ((unit_from_row s x section column).answer.number ≡ 0) ↔ UnitRead s x section column

-- ---- and what is then handed back: what stands in the asked field

abbrev pub ValueReadSays : Type 0
ValueReadSays =
    (s : List ℕ) (x : Row) (section : ℕ) (line : LineNo) (column : ℕ) → (v : ValueRead s x section line column)
    → value_from_row s x section line column
    ≡ said_at s (place_of v.inside.at v.inside.columns line column)

abbrev pub HeadingReadSays : Type 0
HeadingReadSays =
    (s : List ℕ) (x : Row) (section column : ℕ) → (h : HeadingRead s x section column)
    → heading_from_row s x section column
    ≡ ten_at (heading_place h.inside.at column) (pointer_at s (heading_place h.inside.at column))

abbrev pub UnitReadSays : Type 0
UnitReadSays =
    (s : List ℕ) (x : Row) (section column : ℕ) → (u : UnitRead s x section column)
    → unit_from_row s x section column
    ≡ ten_at (unit_place u.inside.at u.inside.columns column)
    (pointer_at s (heading_place u.inside.at column))
