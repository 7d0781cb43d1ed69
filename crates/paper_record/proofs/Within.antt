-- What it is to be within bounds. Assumes nothing.
use mathlib.Core.Path.{◌≡◌}
use mathlib.Core.Bool.{true}
use Prim.Native.Nat.{ℕ, ◌≤◌}
use borrow.Author.Tests.{leb-true}
use lib.Dec.{leb}
use Rattle.laws.proofs.Booleans.{and_left, and_right}
use Rattle.paper_record.specs.Text.{within}

-- a number is within its bounds
pub within-bounds : (low high n : ℕ) → within low high n ≡ true → (low ≤ n) × (n ≤ high)
within-bounds low high n e =
    (leb-true low n (and_left (leb low n) (leb n high) e), leb-true n high (and_right (leb low n) (leb n high) e))
