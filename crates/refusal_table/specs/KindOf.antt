-- The kind of a record, by what a reader sees and with no walk: its own system identifier, or inside a section how many
-- records it stands behind the record that opens the section, by what that record announces.
use Rattle.std.specs.Prelude.{ℕ, suc, ◌+◌, ◌*◌, ◌<◌, ◌≤◌, ◌≡◌, List, [], get_or}
use Rattle.laws.specs.Blocks.{block_at}
use Rattle.paper_record.specs.Places.{records_for}
use Rattle.paper_record.specs.Fields.{fields_of}
use Rattle.paper_record.specs.Identifier.{BIB, COMMON, DATA, TRANS, OTHER, identifier_of}
use Rattle.paper_rules.specs.Roles.{TEXT, COMMON-HEADING, COMMON-UNIT, COMMON-VALUE, DATA-HEADING, DATA-UNIT}
use Rattle.paper_rules.specs.Roles.{DATA-VALUE, NOT-DUE}
use Rattle.paper_rules.specs.Counts.{count_n1, count_n2}

-- ---- the record with the index i

-- its six fields
abbrev pub fields_in : List ℕ → ℕ → List (List ℕ)
fields_in s i = fields_of (block_at 81 s i)

-- its system identifier in columns 1 to 11, OTHER where it has none
abbrev pub name_in : List ℕ → ℕ → ℕ
name_in s i = identifier_of (get_or (fields_in s i) 0 [])

-- what it announces
abbrev pub announced_n1 : List ℕ → ℕ → ℕ
announced_n1 s i = count_n1 (fields_in s i)

abbrev pub announced_n2 : List ℕ → ℕ → ℕ
announced_n2 s i = count_n2 (fields_in s i)

-- ---- inside sections

-- "BIB | .. | records": one of the records that the BIB record j announces; no system identifier stands in them
pub record BehindBib (s : List ℕ) (j i : ℕ) : Type 0 where
  pub opens : name_in s j ≡ BIB
  pub before : j < i
  pub announced : i ≤ j + announced_n2 s j
  pub no_system : (m : ℕ) → j < m → m ≤ i → name_in s m ≡ OTHER

-- "Tables: k heading records, k unit records, then value records, k to a line": a record of the row q behind the COMMON
-- or DATA record j. The headings are row 0, the units row 1, and the line l is row l + 1
pub record InRow (s : List ℕ) (opener j q i : ℕ) : Type 0 where
  pub opens : name_in s j ≡ opener
  pub m : ℕ
  pub of_row : m < records_for (announced_n1 s j)
  pub place : i ≡ j + 1 + (q * records_for (announced_n1 s j) + m)

-- ---- kinds

pub data KindOf (s : List ℕ) (i : ℕ) : ℕ → Type 0 where
  -- "one fills columns 1-11, blanks behind"
  of_system : (kind : ℕ) → kind < TRANS → name_in s i ≡ kind → KindOf s i kind
  of_text : (j : ℕ) → BehindBib s j i → KindOf s i TEXT
  -- "COMMON has line 1 only"
  common_heading : (j : ℕ) → InRow s COMMON j 0 i → KindOf s i COMMON-HEADING
  common_unit : (j : ℕ) → InRow s COMMON j 1 i → KindOf s i COMMON-UNIT
  common_value : (j : ℕ) → InRow s COMMON j 2 i → KindOf s i COMMON-VALUE
  data_heading : (j : ℕ) → InRow s DATA j 0 i → KindOf s i DATA-HEADING
  data_unit : (j : ℕ) → InRow s DATA j 1 i → KindOf s i DATA-UNIT
  data_value : (j line : ℕ) → 1 ≤ line → line ≤ announced_n2 s j → InRow s DATA j (suc line) i → KindOf s i DATA-VALUE
  -- what is due is said by `role_in` (paper_rules, Role) alone; here every record may be one that is not
  not-due : KindOf s i NOT-DUE
