-- COMMON and DATA sections (document 01, "BIB, headings, pointers" and the table of N1 and N2).
use Rattle.std.specs.Prelude.{ℕ, ◌*◌, ◌<◌, ◌≤◌, ◌≡◌, Bool, true, false, List, [], length}
use Rattle.laws.specs.Search.{how_many}
use Rattle.laws.specs.Members.{list_of}
use Rattle.laws.specs.Walk.{All}
use Rattle.paper_record.specs.Places.{records_for}
use Rattle.paper_record.specs.Fields.{fields_of, n1, n2}
use Rattle.paper_record.specs.Word.{pointer_of}
use Rattle.paper_record.specs.Identifier.{COMMON, NOCOMMON, ENDCOMMON, DATA, NODATA, ENDDATA, is_end}
use Rattle.paper_record.specs.System.{count_of, number_of}
use Rattle.paper_record.specs.Numbers.{form_at, says_number}
use Rattle.paper_record.specs.Plain.{BlankColumns, Word, UnitWord, PointerOrBlank, AllBlank, NumberField, NumberOrBlank}
use Rattle.paper_rules.specs.Limits.{MOST-COLUMNS, MOST-LINES}
use Rattle.rules_plain.specs.Places.{cell}
use Rattle.good.specs.Parts.{Record, Table, Section, present, absent, rows_of}
use Rattle.good.specs.Marks.{name_of, CountIs}

-- ---- rows

-- "columns, 1-18": what N1 of COMMON and of DATA says (`GoodTable.counted`)
unfoldable pub columns_of : Table → ℕ
columns_of t = number_of (count_of (n1 (fields_of t.opening)))

-- "With k = columns/6 rounded up": a row of n columns has k records; each used column has one property, and "unused
-- fields are blank"; no record begins with a system identifier "beginning with END"
pub record GoodRow (Used Unused : List ℕ → Type 0) (n : ℕ) (row : List Record) : Type 0 where
  pub records : length row ≡ records_for n
  pub used : (c : ℕ) → c < n → Used (cell row c)
  pub unused : (c : ℕ) → n ≤ c → c < length row * 6 → Unused (cell row c)
  pub no_end : All (λ r. is_end (name_of r) ≡ false) row

-- "A heading is a word in ten columns, with a pointer or blank in the eleventh."
pub record Heading (f : List ℕ) : Type 0 where
  pub word : Word 10 f
  pub pointer : PointerOrBlank (pointer_of f)

-- "A unit is a word in ten columns, eleventh blank."
abbrev pub UnitCell : List ℕ → Type 0
UnitCell f = UnitWord f

abbrev pub BlankCell : List ℕ → Type 0
BlankCell f = BlankColumns 11 f

-- "COMMON values are never blank. DATA values may be": number fields by the grammar, or blank where they may be
abbrev pub GoodValue : Bool → List ℕ → Type 0
GoodValue optional f = NumberOrBlank optional f

abbrev pub BlankValue : List ℕ → Type 0
BlankValue f = AllBlank f

-- one of the n columns of a line is a number
pub record HasNumber (n : ℕ) (row : List Record) : Type 0 where
  pub column : ℕ
  pub used : column < n
  pub number : NumberField (cell row column)

-- how many are: computed, and a column counts exactly when it is a number field (`number-exactly`, record)
abbrev pub is_number : List Record → ℕ → Bool
is_number row c = says_number (form_at (cell row c))

unfoldable pub numbers_in_line : ℕ → List Record → ℕ
numbers_in_line n row = how_many (is_number row) 0 n

abbrev pub GoodHeadings : ℕ → List Record → Type 0
GoodHeadings n row = GoodRow Heading BlankCell n row

abbrev pub GoodUnits : ℕ → List Record → Type 0
GoodUnits n row = GoodRow UnitCell BlankCell n row

abbrev pub GoodValues : Bool → ℕ → List Record → Type 0
GoodValues optional n row = GoodRow (GoodValue optional) BlankValue n row

-- the headings of a table, by column
unfoldable pub headings_of : Table → List (List ℕ)
headings_of t = list_of (cell t.headings) 0 (columns_of t)

-- ---- sections

-- what COMMON and DATA have in common
pub record GoodTable (t : Table) : Type 0 where
  pub counted : CountIs (n1 (fields_of t.opening)) (columns_of t)
  pub least : 1 ≤ columns_of t
  pub most : columns_of t ≤ MOST-COLUMNS
  pub headings : GoodHeadings (columns_of t) t.headings
  pub units : GoodUnits (columns_of t) t.units
  pub between : CountIs (n1 (fields_of t.ending)) (length (rows_of t))

-- "COMMON has exactly 3k records": headings, units and one line, and N2 says so
pub record GoodCommon (t : Table) : Type 0 where
  pub opens : name_of t.opening ≡ COMMON
  pub table : GoodTable t
  pub one : length t.lines ≡ 1
  pub records : CountIs (n2 (fields_of t.opening)) (3 * records_for (columns_of t))
  pub values : All (GoodValues false (columns_of t)) t.lines
  pub ends : name_of t.ending ≡ ENDCOMMON

-- "DATA | columns, 1-18 | lines, 1-20,000": N2 says its lines; "each line has at least one number"
pub record GoodData (t : Table) : Type 0 where
  pub opens : name_of t.opening ≡ DATA
  pub table : GoodTable t
  pub lines : CountIs (n2 (fields_of t.opening)) (length t.lines)
  pub least : 1 ≤ length t.lines
  pub most : length t.lines ≤ MOST-LINES
  pub values : All (GoodValues true (columns_of t)) t.lines
  pub numbers : All (HasNumber (columns_of t)) t.lines
  pub ends : name_of t.ending ≡ ENDDATA

-- "COMMON section or NOCOMMON", "DATA section or NODATA"
abbrev pub GoodCommonPart : Section Table → Type 0
GoodCommonPart (present t) = GoodCommon t
GoodCommonPart (absent r) = name_of r ≡ NOCOMMON

abbrev pub GoodDataPart : Section Table → Type 0
GoodDataPart (present t) = GoodData t
GoodDataPart (absent r) = name_of r ≡ NODATA

abbrev pub headings_of_part : Section Table → List (List ℕ)
headings_of_part (present t) = headings_of t
headings_of_part (absent r) = []
