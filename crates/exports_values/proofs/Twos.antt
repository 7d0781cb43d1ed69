-- Two's complement: as the code makes it, and back.
-- Assumes nothing.
use mathlib.Core.Path.{◌≡◌, refl, ap, ◌∙◌, subst}
use mathlib.Core.Bool.{true, false}
use Prim.Native.Nat.{ℕ, suc, ◌-◌, ◌^◌, ◌≤◌, ◌<◌}
use native.Mathlib.Omega.{arith}
use borrow.Author.Tests.{ltb-true, lt-ltb, le-ltb}
use lib.Dec.{T, leb→le}
use lib.IntN.{ℤ, pos, negsuc, neg_ℤ, nat_abs, ◌-ℤ◌}
use lib.Signed.{◌≤ℤ◌, non_neg, lt_z}
use mir.Syntax.{w32, w64}
use mir.Val.{Fits, SFits, to_z, of_z}
use mir.ValLaws.{to_z-of_z}
use Rattle.paper_canonical.proofs.Numbers.{flat-power, wide-power}
use Rattle.exports_values.specs.Values.{twos, power_in}

-- ---- as the code makes it

-- a power of 32 bits, widened to 64
pub widened : (p : ℤ) → SFits w32 p → to_z w64 (of_z w64 (to_z w32 (of_z w32 p))) ≡ p
widened p h = to_z-of_z w64 (to_z w32 (of_z w32 p)) (wide-power p h) ∙ flat-power p h

-- below zero: m is -1 - p
pub record Below (p m : ℤ) : Type 0 where
  pub fits : SFits w64 m
  pub cast : T (non_neg (to_z w64 (of_z w64 m))) × Fits w64 (nat_abs (to_z w64 (of_z w64 m)))
  pub most : nat_abs (to_z w64 (of_z w64 m)) ≤ 18446744073709551615
  pub same : 18446744073709551615 - nat_abs (to_z w64 (of_z w64 m)) ≡ twos p

pub below : (p : ℤ) → SFits w32 p → lt_z p (pos 0) ≡ true → Below p (negsuc 0 -ℤ p)
below (pos n) h e = absurd (omega (arith, ltb-true n 0 e))
below (negsuc n) h e =
    let l : n < 2 ^ 31 = omega (arith, h.sfits) in
    let f : SFits w64 (pos n) = record { sfits = omega arith } in
    let t = to_z-of_z w64 (pos n) f in
    let less : suc n - 1 ≡ n = omega arith in
    let m : negsuc 0 -ℤ negsuc n ≡ pos n = rw (le-ltb (suc n) 1 (omega arith)) (ap pos less) in
    record {
      fits = rw m f;
      cast = rw (m, t) (tt, record { fits = omega arith });
      most = rw (m, t) (omega arith);
      same = rw (m, t) refl;
    }

pub record Above (p : ℤ) : Type 0 where
  pub cast : T (non_neg p) × Fits w64 (nat_abs p)
  pub same : nat_abs p ≡ twos p

pub above : (p : ℤ) → SFits w32 p → lt_z p (pos 0) ≡ false → Above p
above (pos n) h e = record { cast = (tt, record { fits = omega (arith, h.sfits) }); same = refl }
above (negsuc n) h e = absurd (subst T e tt)

-- ---- back

pub twos_back : (p : ℤ) → neg_ℤ (pos 100000000) ≤ℤ p → p ≤ℤ pos 99999999 → power_in (twos p) ≡ p
twos_back (pos n) low high =
    let l : n ≤ 99999999 = leb→le n 99999999 high.le in
    rw (lt-ltb n (2 ^ 63) (omega arith)) refl
twos_back (negsuc n) low high =
    let l : n ≤ 99999999 = leb→le n 99999999 low.le in
    let e : 2 ^ 64 - 1 - (2 ^ 64 - 1 - n) ≡ n = omega arith in
    rw (le-ltb (2 ^ 64 - 1 - n) (2 ^ 63) (omega arith)) (ap negsuc e)
