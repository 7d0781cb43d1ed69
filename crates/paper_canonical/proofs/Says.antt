-- What it takes for a field to mean a value other than zero: its digits are the coefficient's with k zeros behind them,
-- and its power is smaller by k.
-- Assumes nothing.
use mathlib.Core.Path.{◌≡◌, refl, sym, ◌∙◌}
use mathlib.Core.Bool.{Bool, true, false}
use mathlib.Core.List.{List}
use mathlib.Core.Logic.{◌⊎◌, inl, inr}
use Prim.Native.Nat.{ℕ, zero, suc, ◌+◌, ◌*◌, ◌%◌, ◌^◌, ◌<◌, ◌≤◌}
use native.Mathlib.Nat.{mul-le-mul_right, lt_of_le_of_lt, zero-mul}
use native.Mathlib.Omega.{arith}
use lib.Pow.{pow-add}
use lib.ListN.{length}
use lib.IntN.{ℤ, pos, negsuc, ◌+ℤ◌}
use Rattle.paper_number.specs.Grammar.{Digits, num, minus, below, Opening, plain, power, Field}
use Rattle.paper_number.specs.Value.{decimal, zero_decimal, digits_of, power_of, Means}
use Rattle.paper_number.proofs.Tens.{ten-pos, ten-lt}
use Rattle.paper_number.proofs.Bounds.{num-lt}
use Rattle.paper_canonical.proofs.Sizes.{up, down, more-zeros, drop-zeros, pos-from, neg-from}

pub record Says (f : Field) (n : Bool) (c : ℕ) (p : ℤ) : Type 0 where
  pub k : ℕ
  pub sense : minus f.sign ≡ n
  pub number : digits_of f ≡ c * 10 ^ k
  pub power : power_of f +ℤ pos k ≡ p

pub says : (f : Field) (n : Bool) (c : ℕ) (p : ℤ) → (c % 10 ≡ 0 → ⊥) → Means f (decimal n c p) → Says f n c p
says f n c p nz h =
    let s = h.size in
    let (k, e, q) = more-zeros s.m s.n (digits_of f) c nz s.numbers in
    record {
      k = k;
      sense = sym (h.sign (λ (z : c ≡ 0). nz (rw z refl)));
      number = q;
      power = drop-zeros (power_of f) p s.m s.n k s.powers e;
    }

-- a field that means zero has no digit but 0
pub zero-digits : (f : Field) → Means f zero_decimal → digits_of f ≡ 0
zero-digits f h = by (digits_of f) (h.size.numbers ∙ zero-mul (10 ^ h.size.n))
  where
    by : (a : ℕ) → a * 10 ^ h.size.m ≡ 0 → a ≡ 0
    by zero e = refl
    by (suc a) e =
        let q = mul-le-mul_right (10 ^ h.size.m) (let r : 1 ≤ suc a = omega arith in r) in
        absurd (omega (arith, ten-pos h.size.m))

-- how many digits that takes
pub weight : (l c k : ℕ) (ds : List ℕ) → 10 ^ l ≤ c → Digits ds → num ds ≡ c * 10 ^ k → l + k < length ds
weight l c k ds h g e =
    ten-lt (l + k) (length ds)
    (rw (pow-add 10 l k) (lt_of_le_of_lt (mul-le-mul_right (10 ^ k) h) (rw (← e) (num-lt ds g))))

-- ---- the power, by the kind of the field

module _ (g : Field) (n : Bool) (c : ℕ) where
  module _ (p : ℕ) (s : Says g n c (pos p)) where
    pub up-plain : (i : ℕ) → g.tail ≡ plain i → s.k ≡ length g.part + p
    up-plain i e = omega (arith, pos-from false 0 (length g.part) s.k p (rw e at s.power))

    pub up-power : (o : Opening) (ds : List ℕ) → g.tail ≡ power o ds
        → ((below o ≡ false) × (s.k + num ds ≡ length g.part + p))
        ⊎ ((below o ≡ true) × (s.k ≡ length g.part + num ds + p))
    up-power o ds e = by (below o) (pos-from (below o) (num ds) (length g.part) s.k p (rw e at s.power))
      where
        by : (t : Bool)
            → up t (num ds) + s.k
            ≡ length g.part + down t (num ds) + p
            → ((t ≡ false) × (s.k + num ds ≡ length g.part + p))
            ⊎ ((t ≡ true) × (s.k ≡ length g.part + num ds + p))
        by true q = inr (refl, omega arith)
        by false q = inl (refl, omega arith)

  module _ (q : ℕ) (s : Says g n c (negsuc q)) where
    pub down-plain : (i : ℕ) → g.tail ≡ plain i → s.k + suc q ≡ length g.part
    down-plain i e = omega (arith, neg-from false 0 (length g.part) s.k q (rw e at s.power))

    pub down-power : (o : Opening) (ds : List ℕ) → g.tail ≡ power o ds
        → ((below o ≡ false) × (s.k + num ds + suc q ≡ length g.part))
        ⊎ ((below o ≡ true) × (s.k + suc q ≡ length g.part + num ds))
    down-power o ds e = by (below o) (neg-from (below o) (num ds) (length g.part) s.k q (rw e at s.power))
      where
        by : (t : Bool)
            → up t (num ds) + s.k + suc q
            ≡ length g.part + down t (num ds)
            → ((t ≡ false) × (s.k + num ds + suc q ≡ length g.part))
            ⊎ ((t ≡ true) × (s.k + suc q ≡ length g.part + num ds))
        by true r = inr (refl, omega arith)
        by false r = inl (refl, omega arith)
