-- The judge by ranges of record numbers: what the code does, and not read against the paper. That it is the judge of
-- the definitions is the law `ranges-judge`.
use Rattle.std.specs.Prelude.{ℕ, ◌+◌, ◌*◌, ◌/◌, ◌<◌, ◌≡◌, cond, List, ◌++◌, length, take, Result, Ok, Err}
use Rattle.laws.specs.Turns.{Turn, go, out, run}
use Rattle.laws.specs.Blocks.{block_at}
use Rattle.paper_record.specs.Columns.{Whole}
use Rattle.paper_record.specs.Places.{record_of}
use Rattle.paper_record.specs.Fields.{fields_of}
use Rattle.paper_record.specs.declared.types.RecordNo.{RecordNo}
use Rattle.paper_rules.specs.declared.types.Phase.TheVariants.{Start}
use Rattle.paper_rules.specs.declared.types.Range.{Range}
use Rattle.paper_faults.specs.declared.types.Fault.{Fault}
use Rattle.paper_faults.specs.Fault.{FaultAnswer, fault_answer, Checked, faultless}
use Rattle.paper_rules.specs.State.{Context, start_track}
use Rattle.paper_rules.specs.Limits.{MOST-RECORDS}
use Rattle.paper_rules.specs.Ranging.{seen_of, Stands}
use Rattle.paper_rules.specs.Order.{fault_of}
use Rattle.entry_step.specs.declared.step.Judge.{Judge}
use Rattle.paper_entry.specs.declared.types.Verdict.{Verdict}
use Rattle.paper_entry.specs.Due.{phase_after}
use Rattle.paper_entry.specs.Counted.{track_after}
use Rattle.paper_entry.specs.Ranging.{ranges_after}
use Rattle.paper_entry.specs.Judging.{role_of, refused_by}
use Rattle.paper_entry.specs.Verdict.{refused, accepted, is_done, length_good}

-- the context that the numbers stand for, where `before` is all that stands before the record in hand
abbrev pub context_of : List ℕ → Judge → Context
context_of before j = record { phase = j.phase; track = j.track; seen = seen_of before j.ranges }

unfoldable pub judge_after : Judge → ℕ → List (List ℕ) → List ℕ → Judge
judge_after j role fs r =
    record {
      phase = phase_after role;
      track = track_after j.track role fs r;
      ranges = ranges_after j.ranges j.track role fs;
    }

-- one record: the state after it, or its fault
abbrev pub step_for : Checked → Judge → Result Judge Fault
step_for (Ok _) next = Ok next
step_for (Err fault) next = Err fault

-- the number and the column of its fault
abbrev pub step_said : Result Judge Fault → FaultAnswer
step_said (Ok next) = fault_answer faultless
step_said (Err fault) = fault_answer (Err fault)

unfoldable pub step_as : List ℕ → Judge → ℕ → List (List ℕ) → List ℕ → Result Judge Fault
step_as before j role fs r =
    step_for (fault_of j.track (seen_of before j.ranges) role fs r) (judge_after j role fs r)

unfoldable pub step_of : List ℕ → Judge → List ℕ → Result Judge Fault
step_of before j r = step_as before j (role_of (context_of before j) r) (fields_of r) r

-- all records
abbrev pub start_judge : Judge
start_judge =
    let g : Range = record { from = record { 0 = 0 }; past = record { 0 = 0 } } in
    record {
      phase = Start;
      track = start_track;
      ranges = record { bib = g; under = g; bib001 = g; common001 = g; common = g; table = g };
    }

abbrev pub on_step : RecordNo → Result Judge Fault → Turn Judge Verdict
on_step at (Ok next) = go next
on_step at (Err fault) = out (refused_by at (Err fault))

abbrev pub step_turn : List ℕ → Judge → ℕ → Turn Judge Verdict
step_turn s j i = on_step (record_of j.track.records) (step_of (take (i * 81) s) j (block_at 81 s i))

unfoldable pub finish_of : Judge → Verdict
finish_of j = cond (is_done j.phase) (accepted j.track.totals) (refused 16 (record_of j.track.records) 0)

unfoldable pub judge_by_ranges : List ℕ → Verdict
judge_by_ranges s =
    cond (length_good (length s)) (run (step_turn s) finish_of start_judge 0 (length s / 81))
    (refused 1 (record { 0 = 0 }) 0)

-- what a step ensures: its answer, and that the next state stands before the next record
abbrev pub Within : Result Judge Fault → List ℕ → Type 0
Within (Ok next) before = Stands next.track next.ranges before
Within (Err fault) before = Unit {0}

pub record SteppedAs (r : Result Judge Fault) (j : Judge) (before rec : List ℕ) (role : ℕ) (fs : List (List ℕ)) : Type 0 where
  pub same : r ≡ step_as before j role fs rec
  pub within : Within r (before ++ rec)

-- the public one: also the number and the column that it says
pub record Stepped (r : Result Judge Fault) (j : Judge) (before rec : List ℕ) : Type 0 where
  pub same : r ≡ step_of before j rec
  pub said : step_said r ≡ step_said (step_of before j rec)
  pub within : Within r (before ++ rec)

-- what a step is lent: the state that stands before the record, with room for one record more, and the record
pub record Ready (j : Judge) (before rec : List ℕ) : Type 0 where
  pub stands : Stands j.track j.ranges before
  pub few : j.track.records.0 < MOST-RECORDS
  pub whole : Whole rec
