-- A walk all of whose turns go on, and its result.
-- Assumes nothing; what a machine has to satisfy stands in the sections' parameters.
use Prim.Native.Nat.{ℕ, zero, suc, ◌+◌, ◌<◌}
use mathlib.Core.Path.{◌≡◌, refl, ap}
use mathlib.Core.List.{List, [], ◌∷◌}
use native.Mathlib.Omega.{arith}
use lib.ListN.{length, get_or}
use Rattle.laws.specs.Turns.{Turn, go, out, after}
use Rattle.laws.specs.Walk.{walk, Goes, All}

module _ {A C R : Type 0} (turn : C → ℕ → A → Turn C R) where
  -- all turns go on: the result is that of the last context
  pub goes-walk : (end : C → R) (c : C) (i : ℕ) (rs : List A) (z : C) → Goes turn c i rs z
      → walk turn end c i rs ≡ end z
  unfolding walk
  goes-walk end c i [] z g = ap end g
  goes-walk end c i (r ∷ rs) z g = rw g.1 (goes-walk end g.0 (i + 1) rs z g.2)

  -- a result that no turn hands out comes from the last context
  module _ (Fine : R → Type 0) (never : (c : C) (i : ℕ) (r : A) (v : R) → turn c i r ≡ out v → Fine v → ⊥) where
    pub walk-goes : (end : C → R) (c : C) (i : ℕ) (rs : List A) → Fine (walk turn end c i rs)
        → (z : C) × Goes turn c i rs z
    unfolding walk
    walk-goes end c i [] h = (c, refl)
    walk-goes end c i (r ∷ rs) h = by_turn (turn c i r) refl h (λ d. walk-goes end d (i + 1) rs)
      where
        by_turn : (t : Turn C R) → turn c i r ≡ t → Fine (after t (λ d. walk turn end d (i + 1) rs))
            → ((d : C) → Fine (walk turn end d (i + 1) rs) → (z : C) × Goes turn d (i + 1) rs z)
            → (z : C) × ((d : C) × (turn c i r ≡ go d) × Goes turn d (i + 1) rs z)
        by_turn (go d) e h next = let (z, g) = next d h in (z, (d, e, g))
        by_turn (out v) e h next = absurd (never c i r v e h)

-- a property of each element, by the index
pub all-at : {A : Type 0} (P : A → Type 0) (a₀ : A) (rs : List A) → All P rs
    → (i : ℕ) → i < length rs → P (get_or rs i a₀)
all-at P a₀ [] h i l = absurd (omega arith)
all-at P a₀ (r ∷ rs) h zero l = h.0
all-at P a₀ (r ∷ rs) h (suc i) l = all-at P a₀ rs h.1 i (omega arith)
