-- Every refusal stands in the paper's table: its number on a record of that kind, at a column of that row. 1 and 16
-- stand on no record of the entry.
use Rattle.std.specs.Prelude.{ℕ, ◌+◌, ◌/◌, ◌%◌, ◌<◌, ◌≡◌, List, length}
use Rattle.paper_record.specs.Identifier.{ENDENTRY}
use Rattle.paper_entry.specs.Verdict.{refused}
use Rattle.paper_entry.specs.Judging.{judge_of, Accepted}
use Rattle.refusal_table.specs.Table.{TableAllows}
use Rattle.refusal_table.specs.KindOf.{name_in, KindOf}

-- "length 0, not a multiple of 81, or over 1,620,000"
pub data BadLength (n : ℕ) : Type 0 where
  none : n ≡ 0 → BadLength n
  not_whole : (n % 81 ≡ 0 → ⊥) → BadLength n
  too_long : 1620000 < n → BadLength n

-- number, record and column of a refusal of the bytes s
pub data Listed (s : List ℕ) : ℕ → ℕ → ℕ → Type 0 where
  -- "1 | length 0, .. | 0 (record 0)"
  at_once : BadLength (length s) → Listed s 1 0 0
  -- 2 to 15, and 17; "Records .. are numbered from 1."
  on_record : (i kind n k : ℕ) → i < length s / 81 → KindOf s i kind → TableAllows n kind k → Listed s n (i + 1) k
  -- "16 | records end before ENDENTRY (record number one past the last) | 0": the last record is another
  behind_last : ((i : ℕ) → i + 1 ≡ length s / 81 → name_in s i ≡ ENDENTRY → ⊥) → Listed s 16 (length s / 81 + 1) 0

abbrev pub RefusalsListed : Type 0
RefusalsListed =
    (s : List ℕ) → (Accepted s → ⊥)
    → Listed s (judge_of s).refusal (judge_of s).«record».0 (judge_of s).column

-- "1 comes first.": every such length is refused so
abbrev pub LengthFirst : Type 0
LengthFirst = (s : List ℕ) → BadLength (length s) → judge_of s ≡ refused 1 (record { 0 = 0 }) 0
