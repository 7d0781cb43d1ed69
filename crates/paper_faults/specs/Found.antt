-- What is found, as a number and a column.
use Rattle.std.specs.Prelude.{ℕ, ◌≡◌, List, [], ◌∷◌, ◌⊎◌}
use Rattle.paper_faults.specs.Fault.{Columns, Finding}

-- the column k is one of those
abbrev pub Among : ℕ → Columns → Type 0
Among k [] = ⊥
Among k (j ∷ ks) = (j ≡ k) ⊎ Among k ks

-- a rule with the number n has found it
abbrev pub Found : List Finding → ℕ → ℕ → Type 0
Found [] n k = ⊥
Found (f ∷ fs) n k = ((f.number ≡ n) × Among k f.columns) ⊎ Found fs n k
