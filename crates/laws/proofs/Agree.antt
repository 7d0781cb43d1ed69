-- Two runs over the same places that keep a relation come to the same result.
-- Rests on the laws in the parameters.
use Prim.Native.Nat.{ℕ, zero, suc, ◌+◌, ◌<◌}
use mathlib.Core.Path.{◌≡◌}
use native.Mathlib.Omega.{arith}
use Rattle.laws.specs.Turns.{Turn, go, out, after, run}

-- both go on, related; or both hand out the same
abbrev pub Agree : {C D R : Type 0} → (C → D → Type 0) → Turn C R → Turn D R → Type 0
Agree K (go c) (go d) = K c d
Agree K (go c) (out w) = ⊥
Agree K (out v) (go d) = ⊥
Agree K (out v) (out w) = v ≡ w

module _ {C D R : Type 0} (f : C → ℕ → Turn C R) (g : D → ℕ → Turn D R) (end : C → R) (last : D → R)
    (K : ℕ → C → D → Type 0) (e : ℕ)
    (ends : (c : C) (d : D) → K e c d → end c ≡ last d)
    (turns : (i : ℕ) (c : C) (d : D) → i < e → K i c d → Agree (K (i + 1)) (f c i) (g d i)) where
  pub runs-agree : (n i : ℕ) (c : C) (d : D) → i + n ≡ e → K i c d → run f end c i n ≡ run g last d i n
  unfolding run
  runs-agree zero i c d h k = let z : i ≡ e = omega arith in ends c d (rw z at k)
  runs-agree (suc n) i c d h k =
      by-turns (f c i) (g d i) (turns i c d (omega arith) k) (λ c d. runs-agree n (i + 1) c d (omega arith))
    where
      by-turns : (t : Turn C R) (u : Turn D R) → Agree (K (i + 1)) t u
          → ((c : C) (d : D) → K (i + 1) c d → run f end c (i + 1) n ≡ run g last d (i + 1) n)
          → after t (λ c. run f end c (i + 1) n) ≡ after u (λ d. run g last d (i + 1) n)
      by-turns (go c) (go d) a same = same c d a
      by-turns (go c) (out w) a same = absurd a
      by-turns (out v) (go d) a same = absurd a
      by-turns (out v) (out w) a same = a
