-- Numbers of the code: counts of digits and signed sizes, which the logic keeps as bits.
-- Assumes nothing.
use mathlib.Core.Path.{◌≡◌, refl, ◌∙◌}
use mathlib.Core.Bool.{Bool, true, false, cond}
use Prim.Native.Nat.{ℕ, suc, ◌+◌, ◌-◌, ◌<◌, ◌≤◌, ◌^◌}
use native.Mathlib.Omega.{arith}
use lib.Dec.{ltb}
use Rattle.std.specs.Prelude.{unsigned_abs}
use lib.IntN.{ℤ, pos, negsuc, ◌+ℤ◌}
use lib.Signed.{mag}
use mir.Syntax.{w32, w64}
use mir.Val.{SFits, to_z, of_z}
use mir.ValLaws.{to_z-of_z, to_z_pos}

pub suc-less : (i : ℕ) → suc i - 1 ≡ i
suc-less i = omega arith

-- ---- a power with zeros added to it

mag-cond : (t : Bool) (a b m : ℕ) → a ≤ m → b ≤ m → mag (cond t (negsuc a) (pos b)) ≤ m
mag-cond true a b m p q = p
mag-cond false a b m p q = q

pub mag-add : (p : ℤ) (z : ℕ) → mag (p +ℤ pos z) ≤ mag p + z
mag-add (pos a) z = omega arith
mag-add (negsuc a) z = mag-cond (ltb z (suc a)) (suc a - suc z) (z - suc a) (a + z) (omega arith) (omega arith)

size-most : (s : ℤ) → unsigned_abs s ≤ suc (mag s)
size-most (pos n) = omega arith
size-most (negsuc n) = omega arith

module _ (p : ℤ) (h : SFits w32 p) where
  pub flat-power : to_z w32 (of_z w32 p) ≡ p
  flat-power = to_z-of_z w32 p h

  wide : SFits w64 p
  wide = record { sfits = omega (arith, h.sfits) }

  pub wide-power : SFits w64 (to_z w32 (of_z w32 p))
  wide-power = rw flat-power wide

  -- `s` is the power in 64 bits
  module _ (s : ℤ) (e : s ≡ to_z w32 (of_z w32 p)) (z : ℕ) (l : z < 2 ^ 31) where
    sum-size : mag (p +ℤ pos z) < 2 ^ 32
    sum-size = omega (arith, mag-add p z, h.sfits)

    sum_is : to_z w64 (of_z w64 s) +ℤ to_z w64 z ≡ p +ℤ pos z
    sum_is = rw (e, flat-power, to_z-of_z w64 p wide, to_z_pos w64 z (omega arith)) refl

    pub from_fits : SFits w64 (to_z w64 (of_z w64 s) +ℤ to_z w64 z)
    from_fits = rw sum_is (record { sfits = omega (arith, sum-size) })

    pub from-flat : to_z w64 (of_z w64 (to_z w64 (of_z w64 s) +ℤ to_z w64 z)) ≡ p +ℤ pos z
    from-flat = to_z-of_z w64 (to_z w64 (of_z w64 s) +ℤ to_z w64 z) from_fits ∙ sum_is

    pub from-few : unsigned_abs (p +ℤ pos z) < 2 ^ 33
    from-few = omega (arith, sum-size, size-most (p +ℤ pos z))

  -- the same by a cast
  module _ (z : ℕ) (l : z < 2 ^ 31) where
    pub sum_fits : SFits w64 (to_z w64 (of_z w64 (to_z w32 (of_z w32 p))) +ℤ to_z w64 z)
    sum_fits = from_fits (to_z w32 (of_z w32 p)) refl z l

    pub sum-flat : to_z w64 (of_z w64 (to_z w64 (of_z w64 (to_z w32 (of_z w32 p))) +ℤ to_z w64 z)) ≡ p +ℤ pos z
    sum-flat = from-flat (to_z w32 (of_z w32 p)) refl z l
