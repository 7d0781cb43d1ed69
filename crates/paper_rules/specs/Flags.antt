-- The rule for values under FLAG and DECAY-FLAG: refusal 17 (document 02, M-105):
--
--   "Document 001, VI.5 says numbers under a FLAG heading must be repeated as codes under the keyword FLAG. A code is an
--   opening parenthesis in column 12, digits, a point, a closing parenthesis, under FLAG in this subentry or 001; it
--   matches by exact value. A non-blank FLAG or DECAY-FLAG value, in COMMON or DATA, must have no exponent. [..]
--   Refusals: 17 an exponent there, or a FLAG value without code, on the value record after 15, column as for 15."
use Rattle.std.specs.Prelude.{ℕ, ◌+◌, ◌-◌, ◌*◌, ◌/◌, Bool, not, ◌&&◌, ◌||◌, List, [], ◌++◌, get_or}
use Rattle.laws.specs.Members.{any_of}
use Rattle.paper_number.specs.Whole.{has_exponent, whole_is}
use Rattle.paper_record.specs.Numbers.{form_at, says_number}
use Rattle.paper_record.specs.Flags.{is_flag, is_flag_heading}
use Rattle.paper_rules.specs.declared.types.Track.{Track}
use Rattle.paper_rules.specs.State.{Seen, used}
use Rattle.paper_rules.specs.Record.{Fields, field_column}
use Rattle.paper_faults.specs.Fault.{Columns, columns_where}
use Rattle.paper_rules.specs.Earlier.{heading_at}
use Rattle.paper_rules.specs.Codes.{codes_of}

-- ---- the column of the table

-- the records of its row that stand before a value record: six columns each, and `rest` columns are left
abbrev pub records_over : Track → ℕ
records_over t = (t.table.columns - t.table.rest) / 6

-- the column of its field k, counted from 0
abbrev pub column_over : Track → ℕ → ℕ
column_over t k = records_over t * 6 + k

-- the heading over it; `table` are the heading records of the table
abbrev pub heading_over : List ℕ → Track → ℕ → List ℕ
heading_over table t k = heading_at table (column_over t k)

-- "FLAG or DECAY-FLAG", with any pointer
unfoldable pub flag_column : List ℕ → Track → ℕ → Bool
flag_column table t k = is_flag_heading (heading_over table t k)

-- ---- the rule

-- "under FLAG in this subentry or 001; it matches by exact value"
unfoldable pub has_code : List ℕ → List ℕ → List ℕ → Bool
has_code bib bib001 f = any_of (whole_is f) (codes_of bib ++ codes_of bib001)

-- "an exponent there, or a FLAG value without code": a number f under a heading h of the two
unfoldable pub flag_wrong : List ℕ → List ℕ → List ℕ → List ℕ → Bool
flag_wrong bib bib001 h f = says_number (form_at f) && (has_exponent f || (is_flag h && not (has_code bib bib001 f)))

abbrev pub flag_fault : List ℕ → List ℕ → List ℕ → List ℕ → Bool
flag_fault bib bib001 h f = is_flag_heading h && flag_wrong bib bib001 h f

abbrev pub flag_fault_at : Seen → Track → Fields → ℕ → Bool
flag_fault_at s t fs k = flag_fault s.bib s.bib001 (heading_over s.table t k) (get_or fs k [])

-- 17, column "as for 15": field's first
unfoldable pub rule17 : Seen → Track → Fields → Columns
rule17 s t fs = columns_where (flag_fault_at s t fs) field_column (used t)
