-- Signed numbers of the code, which the logic keeps as bits: what `to_z` and `of_z` leave in a need, and what a test of
-- the sign tells.
-- Assumes nothing.
use mathlib.Core.Path.{◌≡◌, refl, subst}
use mathlib.Core.Bool.{true, false}
use Prim.Native.Nat.{ℕ, suc, ◌<◌, ◌^◌}
use native.Mathlib.Nat.{zero-add}
use native.Mathlib.Omega.{arith}
use borrow.Author.Tests.{ltb-true}
use lib.Dec.{T, ltb}
use lib.IntN.{ℤ, pos, negsuc, ◌-ℤ◌}
use lib.Signed.{lt_z}
use mir.Syntax.{w32, w64}
use mir.Val.{SFits, to_z, of_z}
use mir.ValLaws.{to_z-of_z}

module _ (p : ℤ) (h : SFits w32 p) where
  -- 32 bits fit 64
  pub wide : SFits w64 p
  wide = record { sfits = omega (arith, h.sfits) }

  pub flat : to_z w32 (of_z w32 p) ≡ p
  flat = to_z-of_z w32 p h

  pub flat-wide : to_z w64 (of_z w64 (to_z w32 (of_z w32 p))) ≡ p
  flat-wide = rw flat (to_z-of_z w64 p wide)

-- a number that the code found below 0, and one that it did not
pub below : (p : ℤ) → SFits w32 p → lt_z (to_z w32 (of_z w32 p)) (pos 0) ≡ true → (n : ℕ) × (p ≡ negsuc n) × (n < 2 ^ 31)
below (pos n) h t = absurd (not-below n (rw (to_z-of_z w32 (pos n) h) at t))
  where
    not-below : (n : ℕ) → ltb n 0 ≡ true → ⊥
    not-below n e = omega (arith, ltb-true n 0 e)
below (negsuc n) h t = (n, refl, h.sfits)

pub above : (p : ℤ) → SFits w32 p → lt_z (to_z w32 (of_z w32 p)) (pos 0) ≡ false → (n : ℕ) × (p ≡ pos n) × (n < 2 ^ 31)
above (pos n) h t = (n, refl, h.sfits)
above (negsuc n) h t = absurd (never (rw (to_z-of_z w32 (negsuc n) h) at t))
  where
    never : true ≡ false → ⊥
    never e = subst T e tt

-- the size of a number below 0, taken in 64 bits
module _ (n : ℕ) (l : n < 2 ^ 31) where
  pub size_fits : SFits w64 (pos 0 -ℤ to_z w64 (of_z w64 (to_z w32 (of_z w32 (negsuc n)))))
  size_fits = rw (flat-wide (negsuc n) (record { sfits = l })) (record { sfits = omega arith })

  pub size-made : to_z w64 (of_z w64 (pos 0 -ℤ to_z w64 (of_z w64 (to_z w32 (of_z w32 (negsuc n)))))) ≡ pos (suc n)
  size-made =
      rw (flat-wide (negsuc n) (record { sfits = l }), zero-add)
      (to_z-of_z w64 (pos (suc n)) (record { sfits = omega arith }))
