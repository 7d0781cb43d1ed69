-- "then the first met of 50 character no code can have there (record and column; passage ended: next record, column 0)
-- and 51 break after no comma (the character before it)": what a question answers with either number, exactly, in the
-- plain words of decay_first and with the record counted in the entry.
use Rattle.std.specs.Prelude.{ℕ, ◌+◌, ◌≤◌, ◌≡◌, List, ◌↔◌}
use Rattle.paper_record.specs.Text.{text}
use Rattle.paper_entry.specs.Judging.{Accepted}
use Rattle.inside.specs.Inside.{InsidePassage}
use Rattle.paper_codes.specs.Opening.{records_of, Opening}
use Rattle.paper_codes.specs.Asked.{code_asked}
use Rattle.decay_first.specs.Claims.{Fault}
use Rattle.codes_laws.specs.Inside.{decay_bytes}
use Rattle.codes_laws.specs.Placed.{fault_at}

-- the code that the j-th opening of the passage begins is at fault in a record of the entry and a column
pub record FaultIn (s : List ℕ) (n pointer j number line column : ℕ) : Type 0 where
  pub accepted : Accepted s
  pub passage : InsidePassage s n (text "DECAY-DATA") pointer
  pub index : ℕ
  pub opening : Opening (decay_bytes s n pointer) j index
  pub at : ℕ
  pub fault : Fault (decay_bytes s n pointer) index (records_of (decay_bytes s n pointer)) number at column
  pub counted : line ≡ passage.index + at + 1

abbrev pub CodeFaults : Type 0
CodeFaults =
    (s : List ℕ) (n pointer j room number line column : ℕ) → 50 ≤ number → number ≤ 51
    → (code_asked s n pointer j room ≡ fault_at number line column) ↔ FaultIn s n pointer j number line column

-- and no other answer has these numbers
abbrev pub FaultsOnly : Type 0
FaultsOnly =
    (s : List ℕ) (n pointer j room : ℕ) → 50 ≤ (code_asked s n pointer j room).answer.number
    → (code_asked s n pointer j room).answer.number ≤ 51
    → code_asked s n pointer j room
    ≡ fault_at (code_asked s n pointer j room).answer.number (code_asked s n pointer j room).answer.«record».0
    (code_asked s n pointer j room).answer.column
