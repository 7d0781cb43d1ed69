-- The table of powers, by its places.
-- Assumes nothing.
use mathlib.Core.Path.{◌≡◌, refl, ap, ◌∙◌}
use mathlib.Core.List.{List}
use Prim.Native.Nat.{ℕ, zero, suc, ◌+◌, ◌≤◌, ◌<◌, ◌^◌}
use native.Mathlib.Nat.{le_of_suc-le-suc, not-suc-le-zero, zero-add, add-zero}
use native.Mathlib.Omega.{arith}
use lib.ListN.{get_or}
use lib.Ieee.{Float, nan}
use Rattle.paper_double.specs.Double.{whole}
use Rattle.paper_double.specs.Table.{tens_from, tens}

from_at : (n i k : ℕ) → k < n → get_or (tens_from n i) k nan ≡ whole (10 ^ (i + k))
unfolding tens_from
from_at zero i k h = absurd (not-suc-le-zero h)
from_at (suc n) i zero h = ap (λ (m : ℕ). whole (10 ^ m)) (omega arith)
from_at (suc n) i (suc k) h =
    from_at n (suc i) k (le_of_suc-le-suc h) ∙ ap (λ (m : ℕ). whole (10 ^ m)) (omega arith)

pub tens-at : (k : ℕ) → k ≤ 22 → get_or tens k nan ≡ whole (10 ^ k)
unfolding tens
tens-at k h = from_at 23 0 k (omega arith) ∙ ap (λ (m : ℕ). whole (10 ^ m)) (zero-add k)
