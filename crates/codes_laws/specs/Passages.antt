-- Code j of a passage in hand, in plain words: the j-th opening, a code that is laid out from there on or its first
-- fault, and the room. One of them holds of any bytes (`met-alone`, decay_first), so nothing is left open.
use Rattle.std.specs.Prelude.{ℕ, ◌≤◌, ◌<◌, ◌≡◌, List, length}
use Rattle.std.proofs.Math.Seq.{paste}
use Rattle.paper_decay.specs.Code.{Code, write, Good}
use Rattle.paper_decay.specs.Fields.{run_of}
use Rattle.paper_decay.specs.Laid.{texts_of, Laid}
use Rattle.decay_first.specs.Claims.{Fault}
use Rattle.paper_codes.specs.Opening.{records_of, Opening}
use Rattle.paper_codes.specs.Asked.{code_is, code_in, stored_in}

-- a code is laid out from the j-th opening on
pub record CodeHere (p : List ℕ) (j : ℕ) (c : Code) : Type 0 where
  pub index : ℕ
  pub opens : Opening p j index
  pub good : Good c
  pub laid : Laid (texts_of p index (records_of p)) (write c)

-- its run stands in front of what is lent, and every other byte stays
abbrev pub InAnswered : Type 0
InAnswered =
    (p : List ℕ) (j : ℕ) (c : Code) → CodeHere p j c
    → ((room : ℕ) → length (run_of c) ≤ room → code_in p j room ≡ code_is 0 0 0 (length (run_of c)))
    × ((y : List ℕ) → length (run_of c) ≤ length y → stored_in p j y ≡ paste y 0 (run_of c) (length (run_of c)))

abbrev pub InShort : Type 0
InShort =
    (p : List ℕ) (j : ℕ) (c : Code) → CodeHere p j c → (room : ℕ) → room < length (run_of c)
    → code_in p j room ≡ code_is 52 0 0 0

-- a record by its index in the passage, whatever the room
abbrev pub InFaulty : Type 0
InFaulty =
    (p : List ℕ) (j i number at column : ℕ) → Opening p j i → Fault p i (records_of p) number at column → (room : ℕ)
    → code_in p j room ≡ code_is number at column 0

abbrev pub InNone : Type 0
InNone =
    (p : List ℕ) (j : ℕ) → ((i : ℕ) → Opening p j i → ⊥) → (room : ℕ) → code_in p j room ≡ code_is 36 0 0 0

abbrev pub InStores : Type 0
InStores = (p : List ℕ) (j : ℕ) (y : List ℕ) → ((code_in p j (length y)).number ≡ 0 → ⊥) → stored_in p j y ≡ y

-- a slice as long as the passage is always long enough
abbrev pub InRoom : Type 0
InRoom = (p : List ℕ) (j room : ℕ) → length p ≤ room → (code_in p j room).number ≡ 52 → ⊥
