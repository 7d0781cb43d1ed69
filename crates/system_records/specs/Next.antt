-- The system records of an accepted entry, each found from the one before it by its own counts (document 01, "Nesting
-- and counts"):
--
--   "With k = columns/6 rounded up, COMMON has exactly 3k records, DATA (2 + lines) times k. Sections end by these
--   counts; then the END record must stand there."
use Rattle.std.specs.Prelude.{ℕ, ◌+◌, ◌*◌, ◌/◌, ◌<◌, ◌≤◌, ◌≡◌, Bool, true, cond, List, [], eqb, length, get_or}
use Rattle.laws.specs.Blocks.{block_at}
use Rattle.paper_record.specs.Places.{records_for}
use Rattle.paper_record.specs.Fields.{fields_of, n1}
use Rattle.paper_record.specs.Identifier.{BIB, COMMON, DATA, identifier_of}
use Rattle.paper_record.specs.System.{up_to, subentry_of}
use Rattle.paper_rules.specs.declared.types.Track.{Track}
use Rattle.paper_rules.specs.declared.types.Phase.{Phase}
use Rattle.paper_rules.specs.declared.types.Phase.TheVariants.{Start, Opened, InSubentry, InBib, AfterBib}
use Rattle.paper_rules.specs.declared.types.Phase.TheVariants.{InCommon, AfterCommon, InData, AfterData, Between, Done}
use Rattle.paper_rules.specs.State.{Context}
use Rattle.paper_rules.specs.Limits.{MOST-RECORDS, MOST-COLUMNS, MOST-LINES}
use Rattle.paper_rules.specs.Counts.{count_n1, count_n2}
use Rattle.paper_rules.specs.Role.{all_read}
use Rattle.paper_rules.specs.Roles.{opens_subentry}
use Rattle.paper_entry.specs.Judging.{Accepted}
use Rattle.paper_entry.specs.Contexts.{context_at, role_at}
use Rattle.paper_questions.specs.declared.types.Row.{Row}
use Rattle.paper_questions.specs.Located.{row_at}
use Rattle.paper_index.specs.Rows.{opened_to}

-- ---- how many records stand between a system record and the next

abbrev pub table_records : ℕ → ℕ → ℕ
table_records columns lines = (2 + lines) * records_for columns

-- those of the section that it opens, by its identifier and its own counts; a count out of its range counts as 0
unfoldable pub records_inside : ℕ → List (List ℕ) → ℕ
records_inside k fs =
    cond (eqb k BIB) (up_to MOST-RECORDS (count_n2 fs))
    (cond (eqb k COMMON) (table_records (up_to MOST-COLUMNS (count_n1 fs)) 1)
    (cond (eqb k DATA) (table_records (up_to MOST-COLUMNS (count_n1 fs)) (up_to MOST-LINES (count_n2 fs))) 0))

-- the number of the subentry in hand behind it; SUBENT and NOSUBENT say it themselves
unfoldable pub hand_behind : ℕ → List (List ℕ) → ℕ → ℕ
hand_behind k fs hand = cond (opens_subentry k) (subentry_of (n1 fs)) hand

-- ---- where a system record is due

-- in no section, or behind the last record of one
unfoldable pub system_due : Phase → Track → Bool
system_due Start t = true
system_due Opened t = true
system_due InSubentry t = true
system_due InBib t = eqb t.section t.bib.records
system_due AfterBib t = true
system_due InCommon t = all_read t
system_due AfterCommon t = true
system_due InData t = all_read t
system_due AfterData t = true
system_due Between t = true
system_due Done t = true

pub record DueAt (s : List ℕ) (i : ℕ) : Type 0 where
  pub there : i ≤ length s / 81
  pub due : system_due (context_at s i).phase (context_at s i).track ≡ true

-- ---- what is claimed

-- the identifier in the first eleven columns of a record
abbrev pub identifier_in : List ℕ → ℕ → ℕ
identifier_in s i = identifier_of (get_or (fields_of (block_at 81 s i)) 0 [])

-- where the next one stands
abbrev pub next_system : List ℕ → ℕ → ℕ
next_system s i = i + 1 + records_inside (identifier_in s i) (fields_of (block_at 81 s i))

-- the record is what its identifier says, behind its section a system record is due again, and no record between them
-- opens a subentry or stands in the row of one
pub record NextSystem (s : List ℕ) (i : ℕ) : Type 0 where
  pub role : role_at s i ≡ identifier_in s i
  pub next : DueAt s (next_system s i)
  pub hand : (context_at s (next_system s i)).track.subentry.number ≡ (context_at s (i + 1)).track.subentry.number
  pub row : (number : ℕ) → row_at s number (next_system s i) ≡ row_at s number (i + 1)
  pub opened : opened_to s (next_system s i) ≡ opened_to s (i + 1)

abbrev pub SystemFollows : Type 0
SystemFollows = (s : List ℕ) → Accepted s → (i : ℕ) → i < length s / 81 → DueAt s i → NextSystem s i

-- ---- the row of a subentry, from system record to system record

-- before the system record with the index i: the number of the subentry in hand, and the row so far
pub record RowTo (s : List ℕ) (number i hand : ℕ) (x : Row) : Type 0 where
  pub due : DueAt s i
  pub in-hand : hand ≡ (context_at s i).track.subentry.number
  pub noted : x ≡ row_at s number i
