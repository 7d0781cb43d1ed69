-- The order of what is found (document 01): "the lowest number; within that the leftmost column".
use Rattle.std.specs.Prelude.{ℕ, ◌<◌, ◌≤◌, ◌≡◌, List, [], ◌⊎◌, length, get_or}
use Rattle.paper_faults.specs.Fault.{leftmost, Finding, finding, FaultAnswer}

-- the fault n at the column k comes before m at j, or is the same: "the lowest number; within that the leftmost column"
abbrev pub Before : ℕ → ℕ → ℕ → ℕ → Type 0
Before n k m j = (n < m) ⊎ ((n ≡ m) × (k ≤ j))

abbrev pub no_finding : Finding
no_finding = finding 0 []

-- the fault n at the column k is one of what is found, and none of it comes before; columns are counted from 1, so a
-- rule that finds nothing has none
pub record Least (fs : List Finding) (n k : ℕ) : Type 0 where
  pub at : ℕ
  pub there : at < length fs
  pub number : (get_or fs at no_finding).number ≡ n
  pub column : leftmost (get_or fs at no_finding).columns ≡ k
  pub some : 1 ≤ k
  pub least : (i j : ℕ) → i < length fs → j < length (get_or fs i no_finding).columns
      → Before n k (get_or fs i no_finding).number (get_or (get_or fs i no_finding).columns j 0)

-- no rule finds anything
abbrev pub Nothing : List Finding → Type 0
Nothing fs = (k : ℕ) → k < length fs → (get_or fs k no_finding).columns ≡ []

-- what is answered: 0 0 where nothing is found, else the least of what is found
pub data FaultSaid (fs : List Finding) : FaultAnswer → Type 0 where
  no_fault : Nothing fs → FaultSaid fs (record { number = 0; column = 0 })
  a_fault : (n k : ℕ) → Least fs n k → FaultSaid fs (record { number = n; column = k })
