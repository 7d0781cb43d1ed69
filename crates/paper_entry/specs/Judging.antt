-- The judge as a definition (document 01, "Refusal numbers and their order"):
--
--   "Judging: 1 comes first. Then records in order; within one record the lowest number; within that the leftmost
--   column."
use Rattle.std.specs.Prelude.{ℕ, ◌/◌, ◌≡◌, cond, List, [], length, get_or, Ok, Err}
use Rattle.laws.specs.Turns.{Turn, go, out}
use Rattle.laws.specs.Walk.{walk}
use Rattle.laws.specs.Blocks.{blocks}
use Rattle.paper_record.specs.Places.{record_of}
use Rattle.paper_record.specs.Fields.{fields_of}
use Rattle.paper_record.specs.Identifier.{identifier_of}
use Rattle.paper_record.specs.declared.types.RecordNo.{RecordNo}
use Rattle.paper_rules.specs.State.{Context, start_context}
use Rattle.paper_faults.specs.Fault.{fault_answer, Checked, fault_at}
use Rattle.paper_rules.specs.Role.{role_in}
use Rattle.paper_rules.specs.Order.{fault_of}
use Rattle.paper_entry.specs.declared.types.Verdict.{Verdict}
use Rattle.paper_entry.specs.Next.{context_after}
use Rattle.paper_entry.specs.Verdict.{refused, accepted, is_done, length_good}

-- ---- one record

-- its role in its context
abbrev pub role_of : Context → List ℕ → ℕ
role_of c r = role_in c.phase c.track (identifier_of (get_or (fields_of r) 0 []))

-- the verdict by the number and the column of a fault
abbrev pub refused_by : RecordNo → Checked → Verdict
refused_by at fault = refused (fault_answer fault).number at (fault_answer fault).column

-- the context after it, or the verdict
abbrev pub on_fault : RecordNo → Checked → Context → Turn Context Verdict
on_fault at (Ok _) next = go next
on_fault at (Err fault) next = out (refused_by at (Err fault))

-- a record with its role and its six fields; its number is one more than those before it
unfoldable pub turn_as : Context → ℕ → List (List ℕ) → List ℕ → Turn Context Verdict
turn_as c role fs r =
    on_fault (record_of c.track.records) (fault_of c.track c.seen role fs r) (context_after c role fs r)

unfoldable pub turn_of : Context → ℕ → List ℕ → Turn Context Verdict
turn_of c i r = turn_as c (role_of c r) (fields_of r) r

-- ---- all records

-- 16, "records end before ENDENTRY (record number one past the last)", column 0
unfoldable pub end_of : Context → Verdict
end_of c =
    cond (is_done c.phase) (accepted c.track.totals) (refused 16 (record_of c.track.records) 0)

unfoldable pub judge_of : List ℕ → Verdict
judge_of s =
    cond (length_good (length s)) (walk turn_of end_of start_context 0 (blocks 81 (length s / 81) s))
    (refused 1 (record { 0 = 0 }) 0)

-- "an accepted entry"
abbrev pub Accepted : List ℕ → Type 0
Accepted s = (judge_of s).refusal ≡ 0
