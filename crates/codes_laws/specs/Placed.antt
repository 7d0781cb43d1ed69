-- "record and column": the records of a passage are the entry's own, and the record beside 50 and 51 is counted in the
-- entry. Which records and columns have a fault is said of `scan_records` (decay_first).
use Rattle.std.specs.Prelude.{ℕ, ◌+◌, ◌≤◌, ◌<◌, ◌≡◌, List}
use Rattle.paper_record.specs.Text.{text}
use Rattle.paper_entry.specs.Judging.{Accepted}
use Rattle.inside.specs.Inside.{InsidePassage}
use Rattle.paper_decay.specs.Records.{text_at, said, scan_records}
use Rattle.paper_codes.specs.declared.types.CodeAnswer.{CodeAnswer}
use Rattle.paper_codes.specs.Opening.{records_of, opens, Opening}
use Rattle.paper_codes.specs.Asked.{code_asked}
use Rattle.codes_laws.specs.Inside.{decay_bytes}

-- the record k of the passage, counted from 0, is the record so many behind the one that begins it
abbrev pub PassageRecords : Type 0
PassageRecords =
    (s : List ℕ) (n pointer : ℕ) → Accepted s → (x : InsidePassage s n (text "DECAY-DATA") pointer) → (k : ℕ)
    → k < records_of (decay_bytes s n pointer)
    → (text_at (decay_bytes s n pointer) k ≡ text_at s (x.index + k))
    × (opens (decay_bytes s n pointer) k ≡ opens s (x.index + k))

-- a number with a record, counted from 1, and a column
abbrev pub fault_at : ℕ → ℕ → ℕ → CodeAnswer
fault_at number line column =
    record {
      answer = record { number = number; refusal = 0; «record» = record { 0 = line }; column = column; ordinal = 0 };
      length = 0;
    }

-- a fault of code j is told with its place in the entry, whatever the room
abbrev pub FaultTold : Type 0
FaultTold =
    (s : List ℕ) (n pointer j i : ℕ) → Accepted s → (x : InsidePassage s n (text "DECAY-DATA") pointer)
    → Opening (decay_bytes s n pointer) j i → (number at column : ℕ) → 50 ≤ number → number ≤ 51
    → scan_records (decay_bytes s n pointer) i (records_of (decay_bytes s n pointer)) ≡ said number at column → (room : ℕ)
    → code_asked s n pointer j room ≡ fault_at number (x.index + at + 1) column

-- and these numbers are given for nothing else
pub record FaultOf (s : List ℕ) (n pointer j number : ℕ) : Type 0 where
  pub accepted : Accepted s
  pub passage : InsidePassage s n (text "DECAY-DATA") pointer
  pub index : ℕ
  pub opening : Opening (decay_bytes s n pointer) j index
  pub at : ℕ
  pub column : ℕ
  pub found : scan_records (decay_bytes s n pointer) index (records_of (decay_bytes s n pointer)) ≡ said number at column

abbrev pub FaultInside : Type 0
FaultInside =
    (s : List ℕ) (n pointer j room number : ℕ) → 50 ≤ number → number ≤ 51
    → (code_asked s n pointer j room).answer.number ≡ number → FaultOf s n pointer j number

-- beside 36 and 52 nothing stands
abbrev pub NothingBeside : Type 0
NothingBeside =
    (s : List ℕ) (n pointer j room : ℕ)
    → ((code_asked s n pointer j room).answer.number ≡ 36 → code_asked s n pointer j room ≡ fault_at 36 0 0)
    × ((code_asked s n pointer j room).answer.number ≡ 52 → code_asked s n pointer j room ≡ fault_at 52 0 0)
