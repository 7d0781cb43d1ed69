-- A table whose numbers rise up to a last one, and in which each rule gives its columns from left to right, from 1 up to
-- a last one. So the first finding is the least, and the number and the column of a fault are bounded.
use Rattle.std.specs.Prelude.{ℕ, ◌<◌, ◌≤◌, List, [], ◌∷◌}
use Rattle.paper_faults.specs.Fault.{Columns, Finding}

-- columns from left to right, none before the column a and none behind `last`
pub data Rising (last : ℕ) : ℕ → Columns → Type 0 where
  no-column : {a : ℕ} → Rising last a []
  column : {a k : ℕ} {ks : List ℕ} → a ≤ k → k ≤ last → Rising last k ks → Rising last a (k ∷ ks)

-- findings by rising numbers, all above a and none above `most`
pub data Sorted (most last : ℕ) : ℕ → List Finding → Type 0 where
  no_more : {a : ℕ} → a ≤ most → Sorted most last a []
  also : {a : ℕ} {f : Finding} {fs : List Finding} → a < f.number → Rising last 1 f.columns
      → Sorted most last f.number fs → Sorted most last a (f ∷ fs)

-- a number above a, and a column, both up to their last
pub record Bounded (most last a n k : ℕ) : Type 0 where
  pub above : a < n
  pub to_last : n ≤ most
  pub from_one : 1 ≤ k
  pub to_column : k ≤ last
