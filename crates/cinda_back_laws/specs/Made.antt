-- What is claimed of the call that writes lines back: its answer in each case, and what it leaves in the buffer.
use Rattle.std.specs.Prelude.{ℕ, ◌<◌, ◌≤◌, ◌≡◌, ◌↔◌, List, length, take, drop}
use Rattle.paper_cinda.specs.declared.types.LinesAnswer.{LinesAnswer}
use Rattle.paper_cinda.specs.Check.{check_of, GoodLines}
use Rattle.paper_cinda.specs.Back.{lines_back, written, stored}

-- a number, with no line and no column beside it
abbrev pub told : ℕ → LinesAnswer
told n = record { number = n; line = record { 0 = 0 }; column = 0 }

-- good lines and room for them: 0, the lines in the buffer, and behind them what stood there
pub record Made (s out : List ℕ) : Type 0 where
  pub answer : written s (length out) ≡ told 0
  pub lines : take (length s) (stored s out) ≡ lines_back s
  pub behind : drop (length s) (stored s out) ≡ drop (length s) out

abbrev pub BackMade : Type 0
BackMade = (s out : List ℕ) → GoodLines s → length s ≤ length out → Made s out

-- "A refused call stores nothing" (document 01)
abbrev pub BackRefused : Type 0
BackRefused = (s out : List ℕ) → ((written s (length out)).number ≡ 0 → ⊥) → stored s out ≡ out

-- the answer in each case: "37 buffer shorter than the lines" comes behind 70 to 77
pub data Answered (s : List ℕ) (room : ℕ) : LinesAnswer → Type 0 where
  all_written : GoodLines s → length s ≤ room → Answered s room (told 0)
  too_short : GoodLines s → room < length s → Answered s room (told 37)
  not_good : (GoodLines s → ⊥) → Answered s room (check_of s)

abbrev pub WrittenExactly : Type 0
WrittenExactly = (s : List ℕ) (room : ℕ) (a : LinesAnswer) → (written s room ≡ a) ↔ Answered s room a

-- no refused line is answered by 37
abbrev pub ShortExactly : Type 0
ShortExactly = (s : List ℕ) (room : ℕ) → ((written s room).number ≡ 37) ↔ (GoodLines s × (room < length s))
