-- What the functions of a reason are lent and what they answer, between the code and the definitions; not read against
-- the paper.
use Rattle.std.specs.Prelude.{ℕ, ◌+◌, ◌-◌, ◌*◌, ◌/◌, ◌<◌, ◌≤◌, ◌≡◌, true, cond, List, [], eqb, length, get_or}
use Rattle.paper_record.specs.Fields.{fields_of}
use Rattle.paper_record.specs.Identifier.{identifier_of}
use Rattle.paper_record.specs.Word.{pointer_of}
use Rattle.paper_rules.specs.declared.types.Ranges.{Ranges}
use Rattle.paper_rules.specs.State.{Seen}
use Rattle.paper_rules.specs.Ranging.{seen_of}
use Rattle.paper_rules.specs.Role.{role_in}
use Rattle.paper_rules.specs.Record.{Fields, Record}
use Rattle.paper_entry.specs.Verdict.{length_good}
use Rattle.entry_step.specs.declared.step.Judge.{Judge}
use Rattle.paper_reasons.specs.declared.types.Facts.TheVariants.{Pointer}
use Rattle.paper_reasons.specs.declared.types.Reason.{Reason}
use Rattle.paper_reasons.specs.Reason.{stating, nothing, field_in, equal_facts, reason_for}

-- 13 and 14 stand in one of the six fields
pub record InField (number column : ℕ) : Type 0 where
  pub within : 13 ≤ number → number ≤ 14 → (1 ≤ column) × (column ≤ 66)

-- the last two cases of `reason_for`
abbrev pub heading_reason : Seen → Ranges → Fields → Record → ℕ → ℕ → Reason
heading_reason s g fs r number column =
    cond (eqb number 13) (stating (equal_facts s g fs r (field_in column)))
    (cond (eqb number 14) (stating (Pointer (pointer_of (get_or fs (field_in column) [])))) nothing)

-- from the judge's state before the record
abbrev pub reason_by : Judge → List ℕ → Record → ℕ → ℕ → Reason
reason_by j before r number column =
    reason_for j.track (seen_of before j.ranges) j.ranges
    (role_in j.phase j.track (identifier_of (get_or (fields_of r) 0 []))) (fields_of r) r number column

-- a refusal at the record with the index i of an entry
pub record Asked (s : List ℕ) (i number column : ℕ) : Type 0 where
  pub good : length_good (length s) ≡ true
  pub there : i < length s / 81
  pub heading : InField number column
