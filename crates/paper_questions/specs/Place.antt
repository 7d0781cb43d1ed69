-- Where things stand: a record of an entry by its number, the shape of a section from its own record, and the places of
-- headings, units and values. Each is said of any bytes and any numbers.
use Rattle.std.specs.Prelude.{ℕ, ◌+◌, ◌-◌, ◌*◌, ◌/◌, ◌%◌, ◌≤◌, Bool, cond, not, ◌&&◌, List, [], eqb, leb, length, get_or, replicate}
use Rattle.laws.specs.Blocks.{block_at}
use Rattle.paper_record.specs.Places.{records_for}
use Rattle.paper_record.specs.Fields.{fields_of}
use Rattle.paper_record.specs.Identifier.{identifier_of}
use Rattle.paper_record.specs.System.{up_to}
use Rattle.paper_record.specs.declared.types.RecordNo.{RecordNo}
use Rattle.paper_record.specs.declared.types.Place.{Place}
use Rattle.paper_rules.specs.Limits.{MOST-RECORDS, MOST-COLUMNS, MOST-LINES}
use Rattle.paper_rules.specs.Counts.{count_n1, count_n2}
use Rattle.paper_questions.specs.declared.types.Shape.{Shape}

-- ---- a record by its number

-- "Records, table lines and columns are numbered from 1."
abbrev pub has_record : List ℕ → RecordNo → Bool
has_record s at = not (eqb at.0 0) && leb (at.0 * 81) (length s)

-- the six fields of the record with this number; blank where there is none
unfoldable pub fields_at : List ℕ → RecordNo → List (List ℕ)
fields_at s at =
    cond (has_record s at) (fields_of (block_at 81 s (at.0 - 1))) (replicate 6 (replicate 11 32))

abbrev pub identifier_at : List ℕ → RecordNo → ℕ
identifier_at s at = identifier_of (get_or (fields_at s at) 0 [])

-- ---- a section by its own record

-- "1 COMMON, 2 DATA"
abbrev pub COMMON-SECTION : ℕ
COMMON-SECTION = 1

abbrev pub DATA-SECTION : ℕ
DATA-SECTION = 2

-- "COMMON: columns, 1-18"; "DATA: columns, 1-18; lines, 1-20,000"; "COMMON has line 1 only". A count that is not in
-- its range counts as 0.
abbrev pub shape_from : ℕ → ℕ → ℕ → Shape
shape_from section a b =
    record {
      columns = up_to MOST-COLUMNS a;
      lines = cond (eqb section COMMON-SECTION) 1 (up_to MOST-LINES b);
    }

-- by N1 and N2 of the section's own record
unfoldable pub shape_of : List ℕ → ℕ → RecordNo → Shape
shape_of s section at = let fs = fields_at s at in shape_from section (count_n1 fs) (count_n2 fs)

-- ---- a column's heading and unit; of its values `place_of` of the record layer

-- "Tables: k heading records, k unit records, then value records, k to a line"
unfoldable pub heading_place : RecordNo → ℕ → Place
heading_place section column =
    record { at = record { 0 = section.0 + ((column - 1) / 6 + 1) }; field = (column - 1) % 6 }

unfoldable pub unit_place : RecordNo → ℕ → ℕ → Place
unit_place section columns column =
    record {
      at = record { 0 = section.0 + (records_for columns + ((column - 1) / 6 + 1)) };
      field = (column - 1) % 6;
    }

-- the field at a place
abbrev pub field_of : List ℕ → Place → List ℕ
field_of s p = get_or (fields_at s p.at) p.field []

-- the first byte of a record, and of a place
abbrev pub first_byte : RecordNo → ℕ
first_byte at = (at.0 - 1) * 81

abbrev pub byte_of : Place → ℕ
byte_of p = first_byte p.at + p.field * 11

-- a column of a section that a row of an entry names
pub record InSection (section : RecordNo) (column : ℕ) : Type 0 where
  pub below : section.0 ≤ MOST-RECORDS
  pub from : 1 ≤ column
  pub to : column ≤ MOST-COLUMNS
