-- One record of a file by numbers: what the code does, and not read against the paper. That the next state stands for
-- the next context of the definitions is the law `state-next`.
use Rattle.paper_faults.specs.declared.types.Fault.{Fault}
use Rattle.paper_faults.specs.Fault.{Checked, faultless}
use Rattle.std.specs.Prelude.{ℕ, ◌+◌, ◌*◌, ◌-◌, ◌<◌, ◌≤◌, ◌≡◌, cond, List, eqb, take, drop, Result, Ok, Err}
use Rattle.paper_record.specs.Columns.{Whole}
use Rattle.paper_record.specs.Fields.{fields_of}
use Rattle.paper_rules.specs.Roles.{Role}
use Rattle.paper_rules.specs.Record.{Record}
use Rattle.paper_rules.specs.declared.types.Totals.{Totals}
use Rattle.paper_rules.specs.State.{no_totals}
use Rattle.paper_rules.specs.Ranging.{Stands, Bounded}
use Rattle.paper_entry.specs.Verdict.{is_done}
use Rattle.paper_entry.specs.Judging.{role_of}
use Rattle.entry_step.specs.declared.step.Judge.{Judge}
use Rattle.entry_step.specs.ByRanges.{context_of as entry_of, judge_after, step_of, start_judge}
use Rattle.paper_files.specs.Outside.{outside_fault}
use Rattle.paper_files.specs.declared.types.Stage.{Stage}
use Rattle.paper_files.specs.declared.types.Stage.TheVariants.{Before}
use Rattle.paper_files.specs.File.{FileContext, MOST-IN-FILE, OF-ENTRY, added, one_more, file_role, file_fault}
use Rattle.paper_files.specs.Numbers.{stage_after}
use Rattle.files_state.specs.declared.state.File.{File}
use Rattle.files_state.specs.declared.state.FileStep.{FileStep}

-- the context that the numbers stand for, where `before` is all of the entry in hand that stands before the record
abbrev pub context_of : List ℕ → File → FileContext
context_of before f =
    record {
      stage = f.stage;
      records = f.records;
      entries = f.entries;
      totals = f.totals;
      entry = entry_of before f.judge;
    }

abbrev pub start_state : File
start_state =
    record { stage = Before; records = record { 0 = 0 }; entries = 0; totals = no_totals; judge = start_judge }

-- the state before the record with the index i of the entry in hand, whose judge stands so
abbrev pub state_on : File → ℕ → Judge → File
state_on f i j =
    record {
      stage = f.stage;
      records = record { 0 = i };
      entries = f.entries;
      totals = f.totals;
      judge = j;
    }

-- ---- the state behind a record

-- behind TRANS or ENDTRANS
abbrev pub state_at : File → Stage → File
state_at f stage =
    record {
      stage = stage;
      records = one_more f.records;
      entries = f.entries;
      totals = f.totals;
      judge = start_judge;
    }

-- behind ENDENTRY, with the totals of the entry
abbrev pub ended_state : File → Totals → File
ended_state f t =
    record {
      stage = f.stage;
      records = one_more f.records;
      entries = f.entries + 1;
      totals = added f.totals t;
      judge = start_judge;
    }

-- behind another record of an entry, whose judge then stands so
abbrev pub within_state : File → Judge → File
within_state f j =
    record {
      stage = f.stage;
      records = one_more f.records;
      entries = f.entries;
      totals = f.totals;
      judge = j;
    }

unfoldable pub behind_state : File → Judge → File
behind_state f j = cond (is_done j.phase) (ended_state f j.track.totals) (within_state f j)

abbrev pub state_outside : Role → File → File
state_outside role f = state_at f (stage_after role)

-- the judge of the entry in hand behind the record
abbrev pub judge_behind : List ℕ → Judge → Record → Judge
judge_behind before j r = judge_after j (role_of (entry_of before j) r) (fields_of r) r

unfoldable pub next_state : List ℕ → File → Record → File
next_state before f r =
    let role = file_role (context_of before f) r in
    cond (eqb role OF-ENTRY) (behind_state f (judge_behind before f.judge r)) (state_outside role f)

-- ---- one record: its fault, and the state after it; a record at fault leaves the state as it was

abbrev pub onwards : Checked → File → File → File
onwards (Ok _) f next = next
onwards (Err fault) f next = f

abbrev pub step_for : Checked → File → File → FileStep
step_for fault f next = record { fault = fault; next = onwards fault f next }

-- what the step of the entry's judge comes to
abbrev pub entered : File → Result Judge Fault → FileStep
entered f (Ok next) = record { fault = faultless; next = behind_state f next }
entered f (Err fault) = record { fault = Err fault; next = f }

unfoldable pub step_entry : List ℕ → File → Record → FileStep
step_entry before f r = entered f (step_of before f.judge r)

unfoldable pub step_outside : Role → File → Record → FileStep
step_outside role f r = step_for (outside_fault f.entries role (fields_of r) r) f (state_outside role f)

unfoldable pub file_step_of : List ℕ → File → Record → FileStep
file_step_of before f r = step_for (file_fault (context_of before f) r) f (next_state before f r)

-- ---- the entry in hand

-- how many of its records stand before the record in hand
abbrev pub own_records : File → ℕ
own_records f = f.judge.track.records.0

-- their bytes, where the record in hand has the index i
abbrev pub own_bytes : List ℕ → ℕ → File → List ℕ
own_bytes s i f = take (own_records f * 81) (drop ((i - own_records f) * 81) s)

-- ---- what holds between two records: what was counted is no more than the records allow

pub record Sane (f : File) : Type 0 where
  pub records : f.records.0 ≤ MOST-IN-FILE
  pub own : own_records f ≤ f.records.0
  pub entries : f.entries ≤ f.records.0
  pub subentries : f.totals.subentries + own_records f ≤ f.records.0
  pub keywords : f.totals.keywords + own_records f ≤ f.records.0
  pub lines : f.totals.lines + own_records f ≤ f.records.0
  pub numbers : f.totals.numbers + own_records f * 6 ≤ f.records.0 * 6

-- what a step is lent: the state that stands before the record, with room for one record more, and the record
pub record FileReady (f : File) (before rec : List ℕ) : Type 0 where
  pub stands : Stands f.judge.track f.judge.ranges before
  pub sane : Sane f
  pub few : f.records.0 < MOST-IN-FILE
  pub whole : Whole rec

-- the judge behind a record of an entry, and room for that record
pub record Room (f : File) (j : Judge) : Type 0 where
  pub sane : Sane f
  pub few : f.records.0 < MOST-IN-FILE
  pub bounded : Bounded j.track
  pub own : j.track.records.0 ≡ own_records f + 1

-- totals whose sums are numbers of 32 bits
pub record Addable (x y : Totals) : Type 0 where
  pub subentries : x.subentries + y.subentries < 4294967296
  pub keywords : x.keywords + y.keywords < 4294967296
  pub lines : x.lines + y.lines < 4294967296
  pub numbers : x.numbers + y.numbers < 4294967296
