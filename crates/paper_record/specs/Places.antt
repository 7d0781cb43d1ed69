-- Where things stand (document 01, "Record, line and field"):
--
--   "A record is 80 columns and one line feed (81 bytes). Records, table lines and columns are numbered from 1."
--   "A table line and a record are counted apart: DATA announces lines, ENDDATA counts records (004, 2.2). A line
--   number never stands in for a record number."
use Rattle.std.specs.Prelude.{ℕ, ◌+◌, ◌-◌, ◌*◌, ◌/◌, ◌%◌, ◌<◌, ◌≤◌}
use Rattle.paper_record.specs.declared.types.RecordNo.{RecordNo}
use Rattle.paper_record.specs.declared.types.LineNo.{LineNo}
use Rattle.paper_record.specs.declared.types.Index.{Index}
use Rattle.paper_record.specs.declared.types.Place.{Place}

-- ---- records of an entry

-- the number of the record that has so many records before it
abbrev pub record_of : Index → RecordNo
record_of i = record { 0 = i.0 + 1 }

-- the first byte of that record
abbrev pub offset_of : Index → ℕ
offset_of i = i.0 * 81

-- an index whose record has a number of 32 bits
pub record Counted (i : Index) : Type 0 where
  pub number : (record_of i).0 < 4294967296

-- ---- records of a table

-- "With k = columns/6 rounded up, COMMON has exactly 3k records, DATA (2 + lines) times k."
abbrev pub records_for : ℕ → ℕ
records_for columns = (columns + 5) / 6

-- "Tables: k heading records, k unit records, then value records, k to a line": the record and the field (0 to 5) of a
-- column in a line; `section` is the number of the table's system record
unfoldable pub place_of : RecordNo → ℕ → LineNo → ℕ → Place
place_of section columns line column =
    record {
      at = record {
        0 = section.0 + (2 * records_for columns + ((line.0 - 1) * records_for columns + ((column - 1) / 6 + 1)));
      };
      field = (column - 1) % 6;
    }

-- a line and a column, numbered from 1, whose record has a number of 32 bits
pub record InTable (section : RecordNo) (columns : ℕ) (line : LineNo) (column : ℕ) : Type 0 where
  pub line_from : 1 ≤ line.0
  pub column_from : 1 ≤ column
  pub number : (place_of section columns line column).at.0 < 4294967296
