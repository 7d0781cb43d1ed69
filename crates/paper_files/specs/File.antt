-- The verdict on a file (document 02, M-100):
--
--   "A file is TRANS, one or more entries, ENDTRANS (document 004, 2.2) [..] A file may have 200,000 records, an entry
--   still 20,000. The verdict gains the entry's ordinal (0 on acceptance, for 1 and 16, outside ENTRY to ENDENTRY and for
--   single entries); record numbers count from the file's start, totals over the file. [..] Refusals: 1 with the new
--   length, then 2 to 16 in the known order; 4, 7 and 8 also for the two new records, 4 for a file without entries, for
--   anything after ENDTRANS and for an entry's 20,001st record; 16 also for a missing ENDTRANS."
--
-- The judge of a file goes over the judge of an entry: between two entries that stands at its start, and is handed only
-- the entry's own records.
use Rattle.std.specs.Prelude.{ℕ, ◌+◌, ◌*◌, ◌/◌, ◌%◌, ◌≡◌, Bool, true, false, cond, not, ◌&&◌, List, [], eqb, leb, length, get_or, Ok, Err}
use Rattle.laws.specs.Turns.{Turn, go, out}
use Rattle.laws.specs.Walk.{walk}
use Rattle.laws.specs.Blocks.{blocks}
use Rattle.paper_record.specs.Places.{record_of}
use Rattle.paper_record.specs.declared.types.Index.{Index}
use Rattle.paper_record.specs.declared.types.RecordNo.{RecordNo}
use Rattle.paper_record.specs.Fields.{fields_of}
use Rattle.paper_record.specs.Identifier.{Identifier, ENTRY, TRANS, ENDTRANS, OTHER, identifier_of}
use Rattle.paper_rules.specs.Roles.{Role, NOT-DUE}
use Rattle.paper_rules.specs.Record.{Record}
use Rattle.paper_faults.specs.Fault.{Finding, first_fault, Checked}
use Rattle.paper_rules.specs.declared.types.Totals.{Totals}
use Rattle.paper_rules.specs.State.{Context, start_context, no_totals}
use Rattle.paper_rules.specs.Limits.{MOST-RECORDS}
use Rattle.paper_rules.specs.Role.{only}
use Rattle.paper_entry.specs.declared.types.Verdict.{Verdict}
use Rattle.paper_entry.specs.Verdict.{refused, refused_within, accepted, is_done}
use Rattle.paper_entry.specs.Contexts.{behind}
use Rattle.entry_walk.specs.First.{found_in}
use Rattle.paper_files.specs.Outside.{outside_findings}
use Rattle.paper_files.specs.declared.types.Stage.{Stage}
use Rattle.paper_files.specs.declared.types.Stage.TheVariants.{Before, Within, Behind}

-- "A file may have 200,000 records"
abbrev pub MOST-IN-FILE : ℕ
MOST-IN-FILE = 200000

-- ---- where a file stands before a record

-- before TRANS, behind it, or behind ENDTRANS; the records before the one in hand; the entries that have ended and what
-- they come to; the context of the entry in hand, where there is none that of a first record
pub record FileContext : Type 0 where
  pub stage : Stage
  pub records : Index
  pub entries : ℕ
  pub totals : Totals
  pub entry : Context

abbrev pub start_file : FileContext
start_file =
    record { stage = Before; records = record { 0 = 0 }; entries = 0; totals = no_totals; entry = start_context }

-- no entry is in hand: none of its records stands before this one
abbrev pub is_between : FileContext → Bool
is_between f = eqb f.entry.track.records.0 0

-- "an entry still 20,000": this record would be its 20,001st
abbrev pub is_full : FileContext → Bool
is_full f = leb MOST-RECORDS f.entry.track.records.0

-- ---- what a record is

-- a record of an entry: its rules are those of the entry in hand
abbrev pub OF-ENTRY : Role
OF-ENTRY = OTHER + 9

-- its system identifier, by its first field
abbrev pub name_of : Record → Identifier
name_of r = identifier_of (get_or (fields_of r) 0 [])

-- ENDTRANS is due behind an entry; "4 for a file without entries"
abbrev pub closes : FileContext → Identifier → Bool
closes f k = is_between f && (leb 1 f.entries && eqb k ENDTRANS)

abbrev pub file_role_in : Stage → FileContext → Identifier → Role
file_role_in Before f k = only TRANS k
file_role_in Within f k = cond (closes f k) ENDTRANS (cond (is_full f) NOT-DUE OF-ENTRY)
file_role_in Behind f k = NOT-DUE

unfoldable pub file_role : FileContext → Record → Role
file_role f r = file_role_in f.stage f (name_of r)

-- ---- its fault

-- "2 to 16 in the known order": what the rules find on it
unfoldable pub file_findings : FileContext → Record → List Finding
file_findings f r =
    cond (eqb (file_role f r) OF-ENTRY) (found_in f.entry r)
    (outside_findings f.entries (file_role f r) (fields_of r) r)

abbrev pub file_fault : FileContext → Record → Checked
file_fault f r = first_fault (file_findings f r)

abbrev pub is_within : Stage → Bool
is_within Before = false
is_within Within = true
is_within Behind = false

-- an entry begins with the record: it is ENTRY, where one may begin
abbrev pub begins : FileContext → Record → Bool
begins f r = is_within f.stage && eqb (name_of r) ENTRY

-- "0 .. outside ENTRY to ENDENTRY", else that of the entry in hand
unfoldable pub ordinal_of : FileContext → Record → ℕ
ordinal_of f r = cond (is_between f && not (begins f r)) 0 (f.entries + 1)

-- ---- the context behind it

-- "totals over the file"
abbrev pub added : Totals → Totals → Totals
added x y =
    record {
      subentries = x.subentries + y.subentries;
      keywords = x.keywords + y.keywords;
      lines = x.lines + y.lines;
      numbers = x.numbers + y.numbers;
    }

abbrev pub one_more : Index → Index
one_more i = record { 0 = i.0 + 1 }

-- behind TRANS or ENDTRANS
abbrev pub at_stage : FileContext → Stage → FileContext
at_stage f stage =
    record {
      stage = stage;
      records = one_more f.records;
      entries = f.entries;
      totals = f.totals;
      entry = start_context;
    }

-- behind ENDENTRY, with the totals of the entry
abbrev pub ended_entry : FileContext → Totals → FileContext
ended_entry f t =
    record {
      stage = f.stage;
      records = one_more f.records;
      entries = f.entries + 1;
      totals = added f.totals t;
      entry = start_context;
    }

-- behind another record of an entry, which then has the context c
abbrev pub within_entry : FileContext → Context → FileContext
within_entry f c =
    record {
      stage = f.stage;
      records = one_more f.records;
      entries = f.entries;
      totals = f.totals;
      entry = c;
    }

unfoldable pub behind_entry : FileContext → Context → FileContext
behind_entry f c = cond (is_done c.phase) (ended_entry f c.track.totals) (within_entry f c)

unfoldable pub file_after : FileContext → Record → FileContext
file_after f r =
    cond (eqb (file_role f r) OF-ENTRY) (behind_entry f (behind f.entry r))
    (cond (eqb (file_role f r) TRANS) (at_stage f Within) (at_stage f Behind))

-- ---- all records

-- the context behind a record, or the verdict; "record numbers count from the file's start"
abbrev pub on_file_fault : ℕ → RecordNo → Checked → FileContext → Turn FileContext Verdict
on_file_fault ordinal at (Ok _) next = go next
on_file_fault ordinal at (Err fault) next = out (refused_within ordinal fault.number at fault.column)

unfoldable pub file_turn : FileContext → ℕ → Record → Turn FileContext Verdict
file_turn f i r = on_file_fault (ordinal_of f r) (record_of f.records) (file_fault f r) (file_after f r)

abbrev pub is_behind : Stage → Bool
is_behind Before = false
is_behind Within = false
is_behind Behind = true

-- "16 also for a missing ENDTRANS"
unfoldable pub file_end : FileContext → Verdict
file_end f = cond (is_behind f.stage) (accepted f.totals) (refused 16 (record_of f.records) 0)

-- "1 with the new length": 0, not a multiple of 81, or over 200,000 records
unfoldable pub file_length_good : ℕ → Bool
file_length_good n = not (eqb n 0) && (eqb (n % 81) 0 && leb n (MOST-IN-FILE * 81))

unfoldable pub judge_file : List ℕ → Verdict
judge_file s =
    cond (file_length_good (length s)) (walk file_turn file_end start_file 0 (blocks 81 (length s / 81) s))
    (refused 1 (record { 0 = 0 }) 0)

-- "an accepted file"
abbrev pub AcceptedFile : List ℕ → Type 0
AcceptedFile s = (judge_file s).refusal ≡ 0
