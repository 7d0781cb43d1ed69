-- Where a code in its records is refused (document 02, M-106): "a code breaks (rest of the record blank) only after a
-- comma and goes on in column 12; [..] then the first met of 50 character no code can have there (record and column;
-- passage ended: next record, column 0) and 51 break after no comma (the character before it)".
use Rattle.std.specs.Prelude.{◌≡◌, List, ℕ, ◌+◌, ◌-◌, ◌*◌, ◌≤◌, ◌<◌, get_or}
use Rattle.paper_decay.specs.Code.{Code, Spells, Viable}
use Rattle.paper_decay_run.specs.Text.{filled_texts, read_to}

-- ---- the columns of a record, which has the index i

abbrev pub char_at : List ℕ → ℕ → ℕ → ℕ
char_at s i column = get_or s (i * 81 + (column - 1)) 0

-- of the columns 12 to 66 this is the last that is filled: "rest of the record blank"
pub record LastFilled (s : List ℕ) (i column : ℕ) : Type 0 where
  pub low : 12 ≤ column
  pub high : column ≤ 66
  pub filled : char_at s i column ≡ 32 → ⊥
  pub blank : (c : ℕ) → column < c → c ≤ 66 → char_at s i c ≡ 32

-- and of these none is
abbrev pub BlankRecord : List ℕ → ℕ → Type 0
BlankRecord s i = (c : ℕ) → 12 ≤ c → c ≤ 66 → char_at s i c ≡ 32

-- "breaks [..] after a comma"
pub record Breaks (s : List ℕ) (i : ℕ) : Type 0 where
  pub column : ℕ
  pub last : LastFilled s i column
  pub comma : char_at s i column ≡ 44

-- ---- how far the code goes on

-- up to the record `at`: each record before it breaks after a comma, and what stands in them begins some code
pub record Reached (s : List ℕ) (from at : ℕ) : Type 0 where
  pub ordered : from ≤ at
  pub breaks : (i : ℕ) → from ≤ i → i < at → Breaks s i
  pub begins : Viable (filled_texts s from (at - from))

abbrev pub NoCode : List ℕ → Type 0
NoCode l = (c : Code) → Spells l c → ⊥

-- ---- the faults

-- what stands before the column begins some code and is none, and with the column none begins so
pub record NoneThere (s : List ℕ) (from at column : ℕ) : Type 0 where
  pub low : 12 ≤ column
  pub last : ℕ
  pub ends : LastFilled s at last
  pub high : column ≤ last
  pub begins : Viable (read_to s from at (column - 1))
  pub unclosed : NoCode (read_to s from at (column - 1))
  pub none : Viable (read_to s from at column) → ⊥

-- "50 character no code can have there"; a code does not go on in a blank record; "passage ended: next record, column 0"
pub data Fault50 (s : List ℕ) (from past at column : ℕ) : Type 0 where
  character : Reached s from at → at < past → NoneThere s from at column → Fault50 s from past at column
  blank : Reached s from at → at < past → BlankRecord s at → column ≡ 12 → Fault50 s from past at column
  ended : Reached s from at → at ≡ past → column ≡ 0 → Fault50 s from past at column

-- "51 break after no comma (the character before it)"
pub record Fault51 (s : List ℕ) (from past at column : ℕ) : Type 0 where
  pub reached : Reached s from at
  pub inside : at < past
  pub last : LastFilled s at column
  pub other : char_at s at column ≡ 44 → ⊥
  pub begins : Viable (read_to s from at column)
  pub unclosed : NoCode (read_to s from at column)
