-- The bytes of a range of records: what the code keeps in place of a part of the entry.
use Rattle.std.specs.Prelude.{List, ℕ, ◌*◌, ◌-◌, ◌≤◌, length, take, drop}
use Rattle.paper_rules.specs.declared.types.Range.{Range}

-- ---- the parts by the numbers of their records

-- the bytes of the records of a range
abbrev pub bytes_of : List ℕ → Range → List ℕ
bytes_of before g = take (g.past.0 * 81 - g.from.0 * 81) (drop (g.from.0 * 81) before)

-- a range whose records lie among the bytes before the record in hand
pub record Lent (before : List ℕ) (g : Range) : Type 0 where
  pub ordered : g.from.0 ≤ g.past.0
  pub within : g.past.0 * 81 ≤ length before
