-- The power counted from -22 on, and what it says of the range.
-- Assumes nothing.
use mathlib.Core.Path.{◌≡◌, refl, sym, subst}
use mathlib.Core.Bool.{Bool, true, false, cond}
use Prim.Native.Nat.{ℕ, suc, ◌+◌, ◌-◌, ◌≤◌}
use native.Mathlib.Omega.{arith}
use borrow.Author.Tests.{ltb-true, ltb-false, le-leb, lt-leb}
use lib.Dec.{T, ltb, leb}
use lib.IntN.{ℤ, pos, negsuc, nat_abs, ◌+ℤ◌}
use lib.Signed.{non_neg, lt_z}
use mir.Syntax.{w64}
use mir.Val.{Fits}
-- a power with a number added to it
pub use Rattle.paper_canonical.proofs.Numbers.{flat-power, wide-power, sum_fits, sum-flat}
use Rattle.paper_double.specs.Table.{rung}

-- ---- the sum with 22

module _ (p : ℤ) where
  -- what the code has made of the sum, where it is from 0 to 44
  pub record Rung : Type 0 where
    pub cast : T (non_neg (p +ℤ pos 22)) × Fits w64 (nat_abs (p +ℤ pos 22))
    pub same : nat_abs (p +ℤ pos 22) ≡ rung p

below_by : (k : ℕ) (t : Bool) → ltb 22 (suc k) ≡ t → lt_z (cond t (negsuc (suc k - suc 22)) (pos (22 - suc k))) (pos 0) ≡ true
    → 45 ≡ cond (leb (suc k) 22) (22 - suc k) 45
below_by k true e h = rw (lt-leb (suc k) 22 (ltb-true 22 (suc k) e)) refl
below_by k false e h = absurd (omega (arith, ltb-true (22 - suc k) 0 h))

pub rung-below : (p : ℤ) → lt_z (p +ℤ pos 22) (pos 0) ≡ true → 45 ≡ rung p
unfolding rung
rung-below (pos k) h = absurd (omega (arith, ltb-true (k + 22) 0 h))
rung-below (negsuc k) h = below_by k (ltb 22 (suc k)) refl h

above-by : (k : ℕ) (t : Bool) → lt_z (pos 44) (cond t (negsuc (suc k - suc 22)) (pos (22 - suc k))) ≡ true
    → 45 ≡ cond (leb (suc k) 22) (22 - suc k) 45
above-by k true h = absurd (subst T (sym h) tt)
above-by k false h = absurd (omega (arith, ltb-true 44 (22 - suc k) h))

pub rung-above : (p : ℤ) → lt_z (pos 44) (p +ℤ pos 22) ≡ true → 45 ≡ rung p
unfolding rung
rung-above (pos k) h = rw (lt-leb k 22 (omega (arith, ltb-true 44 (k + 22) h))) refl
rung-above (negsuc k) h = above-by k (ltb 22 (suc k)) h

within_by : (k : ℕ) (t : Bool) → ltb 22 (suc k) ≡ t
    → lt_z (cond t (negsuc (suc k - suc 22)) (pos (22 - suc k))) (pos 0) ≡ false
    → (T (non_neg (cond t (negsuc (suc k - suc 22)) (pos (22 - suc k)))) × Fits w64 (nat_abs (cond t (negsuc (suc k - suc 22)) (pos (22 - suc k)))))
    × (nat_abs (cond t (negsuc (suc k - suc 22)) (pos (22 - suc k))) ≡ cond (leb (suc k) 22) (22 - suc k) 45)
within_by k true e h = absurd (subst T h tt)
within_by k false e h =
    ((tt, record { fits = omega arith }), rw (le-leb (suc k) 22 (ltb-false 22 (suc k) e)) refl)

pub rung-within : (p : ℤ) → lt_z (p +ℤ pos 22) (pos 0) ≡ false → lt_z (pos 44) (p +ℤ pos 22) ≡ false → Rung p
unfolding rung
rung-within (pos k) h l =
    let m : k ≤ 22 = omega (arith, ltb-false 44 (k + 22) l) in
    record { cast = (tt, record { fits = omega arith }); same = rw (le-leb k 22 m) refl }
rung-within (negsuc k) h l =
    let r = within_by k (ltb 22 (suc k)) refl h in
    record { cast = r.0; same = r.1 }
