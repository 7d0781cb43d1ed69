-- What the counted power says of the answer.
-- Assumes nothing.
use mathlib.Core.Path.{◌≡◌, refl, sym, ap, ◌∙◌}
use mathlib.Core.Bool.{Bool, true, false, cond}
use Prim.Native.Nat.{ℕ, zero, suc, ◌+◌, ◌-◌, ◌<◌, ◌≤◌}
use native.Mathlib.Omega.{arith}
use borrow.Author.Tests.{leb-true, leb-false, le-leb, lt-leb}
use lib.Dec.{leb}
use lib.IntN.{ℤ, pos, negsuc}
use Rattle.laws.proofs.Booleans.{and_none}
use Rattle.paper_number.specs.declared.types.Decimal.{Decimal}
use Rattle.paper_double.specs.declared.types.Simple.{Simple}
use Rattle.paper_double.specs.declared.types.Simple.TheVariants.{Double, Outside}
use Rattle.paper_double.specs.Double.{TEN-DIGITS, in_range, is_simple, sized, times, divided, signed_by, simple_of}
use Rattle.paper_double.specs.Table.{rung}

outside-by : (t : Bool) (k : ℕ) → k ≤ 44 → 44 < cond t k 45 → t ≡ false
outside-by true k h l = absurd (omega arith)
outside-by false k h l = refl

outside-range : (p : ℤ) → 44 < rung p → in_range p ≡ false
unfolding rung
outside-range (pos k) h = at (leb k 22) refl h
  where
    at : (t : Bool) → leb k 22 ≡ t → 44 < cond t (k + 22) 45 → t ≡ false
    at true e l = absurd (omega (arith, leb-true k 22 e))
    at false e l = refl
outside-range (negsuc k) h = outside-by (leb (suc k) 22) (22 - suc k) (omega arith) h

-- more than ten digits
pub too_long : (d : Decimal) → TEN-DIGITS < d.coefficient → Outside d ≡ simple_of d
unfolding simple_of
too_long d h = rw (lt-leb d.coefficient TEN-DIGITS h) refl

-- a power outside, whatever the coefficient
pub outside : (d : Decimal) → 44 < rung d.power → Outside d ≡ simple_of d
unfolding simple_of
outside d h = rw (and_none (leb d.coefficient TEN-DIGITS) (in_range d.power) (outside-range d.power h)) refl

down_by : (c k n : ℕ) (t : Bool) → leb (suc k) 22 ≡ t → n ≡ cond t (22 - suc k) 45 → n < 22
    → (t ≡ true) × (divided c (22 - n) ≡ divided c (suc k))
down_by c k n true e q h = (refl, ap (divided c) (omega (arith, q, leb-true (suc k) 22 e)))
down_by c k n false e q h = absurd (omega arith)

down-range : (c n : ℕ) (p : ℤ) → n ≡ rung p → n < 22 → (in_range p ≡ true) × (divided c (22 - n) ≡ sized c p)
unfolding rung
down-range c n (pos k) e h = absurd (at (leb k 22) e)
  where
    at : (t : Bool) → n ≡ cond t (k + 22) 45 → ⊥
    at true q = omega arith
    at false q = omega arith
down-range c n (negsuc k) e h = down_by c k n (leb (suc k) 22) refl e h

pub down : (d : Decimal) (n : ℕ) → d.coefficient ≤ TEN-DIGITS → n ≡ rung d.power → n < 22
    → Double (signed_by d.negative (divided d.coefficient (22 - n))) ≡ simple_of d
unfolding simple_of
down d n c e h =
    let r = down-range d.coefficient n d.power e h in
    rw (le-leb d.coefficient TEN-DIGITS c, r.0, r.1) refl

up-range : (c n : ℕ) (p : ℤ) → n ≡ rung p → 22 ≤ n → n ≤ 44 → (in_range p ≡ true) × (times c (n - 22) ≡ sized c p)
unfolding rung
up-range c n (pos k) e h l = at (leb k 22) refl e
  where
    at : (t : Bool) → leb k 22 ≡ t → n ≡ cond t (k + 22) 45 → (t ≡ true) × (times c (n - 22) ≡ times c k)
    at true q r = (refl, ap (times c) (omega arith))
    at false q r = absurd (omega arith)
up-range c n (negsuc k) e h l = absurd (at (leb (suc k) 22) e)
  where
    at : (t : Bool) → n ≡ cond t (22 - suc k) 45 → ⊥
    at true q = omega arith
    at false q = omega arith

pub up : (d : Decimal) (n : ℕ) → d.coefficient ≤ TEN-DIGITS → n ≡ rung d.power → 22 ≤ n → n ≤ 44
    → Double (signed_by d.negative (times d.coefficient (n - 22))) ≡ simple_of d
unfolding simple_of
up d n c e h l =
    let r = up-range d.coefficient n d.power e h l in
    rw (le-leb d.coefficient TEN-DIGITS c, r.0, r.1) refl
