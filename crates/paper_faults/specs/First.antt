-- Records or lines in order, each with what the rules find on it (document 01): "Then records in order; within one record
-- the lowest number; within that the leftmost column". `found i` is what they find on that with the index i.
use Rattle.std.specs.Prelude.{ℕ, ◌<◌, List}
use Rattle.paper_faults.specs.Fault.{Finding}
use Rattle.paper_faults.specs.Least.{Least, Nothing}

-- nothing is found on the first n
abbrev pub NoneBefore : (ℕ → List Finding) → ℕ → Type 0
NoneBefore found n = (j : ℕ) → j < n → Nothing (found j)

-- the number n at the column k is the least found at the index i, one of `many`, and nothing is found on an earlier one
pub record Foremost (found : ℕ → List Finding) (many i n k : ℕ) : Type 0 where
  pub there : i < many
  pub earlier : NoneBefore found i
  pub least : Least (found i) n k
