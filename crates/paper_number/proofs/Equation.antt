-- The value of a sign, a whole number and a power of ten: there is one, it is found, and there is no other.
-- Assumes nothing.
use mathlib.Core.Path.{◌≡◌, refl, sym, ap, ◌∙◌}
use mathlib.Core.Bool.{Bool, true, false, cond}
use mathlib.Core.Logic.{inl, inr}
use Prim.Native.Nat.{ℕ, zero, suc, ◌+◌, ◌*◌, ◌/◌, ◌%◌, ◌^◌, ◌<◌, ◌≤◌}
use native.Mathlib.Nat.{zero-mul, mul-one, mul_assoc, mul_comm, mul_right_comm, mul-pos, pow-zero}
use native.Mathlib.Nat.{mul-mod_left}
use native.Mathlib.Omega.{arith}
use borrow.Author.Tests.{eqb-true, eqb-false}
use lib.Dec.{eqb}
use lib.Pow.{pow-add}
use lib.IntN.{ℤ, pos, negsuc, ◌+ℤ◌, +ℤ_idr, +ℤ_comm, +ℤ_invl}
use Rattle.paper_number.specs.declared.types.Decimal.{Decimal}
use Rattle.paper_number.specs.declared.types.Trim.{Trim}
use Rattle.paper_number.specs.Value.{decimal, zero_decimal, SameSize, Normal, Value, trim_from, trim, value_of}
use Rattle.paper_number.proofs.Sums.{plus-swap, plus-plus, plus-cancel}
use Rattle.paper_number.proofs.Tens.{ten-suc, ten-pos, ten-cancel}

-- ---- last zeros

-- r is n without its last zeros, of which k were dropped besides z
pub record Bare (n z : ℕ) (r : Trim) : Type 0 where
  pub k : ℕ
  pub zeros : r.zeros ≡ z + k
  pub whole : n ≡ r.number * 10 ^ k
  pub bare : r.number % 10 ≡ 0 → ⊥

-- one zero more
zero_more : (n c k : ℕ) → n % 10 ≡ 0 → n / 10 ≡ c * 10 ^ k → n ≡ c * 10 ^ suc k
zero_more n c k e h =
    let g : n ≡ 10 * (c * 10 ^ k) = omega arith in
    g ∙ rw (ten-suc k, ← mul_assoc 10 c (10 ^ k), mul_comm 10 c) (mul_assoc c 10 (10 ^ k))

bare-from : (fuel n z : ℕ) (ends : Bool) → eqb (n % 10) 0 ≡ ends → 0 < n → n ≤ fuel → Bare n z (trim_from fuel ends n z)
unfolding trim_from
bare-from zero n z ends e h l = absurd (omega arith)
bare-from (suc fuel) n z false e h l =
    record { k = 0; zeros = omega arith; whole = omega arith; bare = eqb-false (n % 10) 0 e }
bare-from (suc fuel) n z true e h l =
    let q : n % 10 ≡ 0 = eqb-true (n % 10) 0 e in
    let r = bare-from fuel (n / 10) (z + 1) (eqb (n / 10 % 10) 0) refl (omega arith) (omega arith) in
    record {
      k = suc r.k;
      zeros = omega (arith, r.zeros);
      whole = zero_more n (trim_from fuel (eqb (n / 10 % 10) 0) (n / 10) (z + 1)).number r.k q r.whole;
      bare = r.bare;
    }

-- a number above zero without its last zeros
pub trim-bare : (n : ℕ) → 0 < n → Bare n 0 (trim n)
unfolding trim
trim-bare n h = bare-from n n 0 (eqb (n % 10) 0) refl h (omega arith)

-- ---- the value is found

no_size : (m n : ℕ) → 0 * 10 ^ m ≡ 0 * 10 ^ n
no_size m n = zero-mul (10 ^ m) ∙ sym (zero-mul (10 ^ n))

-- zero is as large at any power as at any other
zero-size : (p : ℤ) → SameSize 0 p 0 (pos 0)
zero-size (pos x) =
    record { m = x; n = 0; powers = +ℤ_comm (pos x) (pos 0); numbers = no_size x 0 }
zero-size (negsuc x) =
    record { m = 0; n = suc x; powers = +ℤ_invl (pos (suc x)); numbers = no_size 0 (suc x) }

above : (negative : Bool) (a : ℕ) (p : ℤ) → 0 < a
    → Value negative a p (decimal negative (trim a).number (p +ℤ pos (trim a).zeros))
above negative a p h =
    let t = trim-bare a h in
    let z : (trim a).zeros ≡ t.k = omega (arith, t.zeros) in
    record {
      size = record {
        m = 0;
        n = (trim a).zeros;
        powers = sym (+ℤ_idr (p +ℤ pos (trim a).zeros));
        numbers = rw (pow-zero, mul-one, z) t.whole;
      };
      sign = λ _. refl;
      normal = inl t.bare;
    }

found-by : (t : Bool) (negative : Bool) (a : ℕ) (p : ℤ) → eqb a 0 ≡ t
    → Value negative a p (cond t zero_decimal (decimal negative (trim a).number (p +ℤ pos (trim a).zeros)))
found-by true negative a p e =
    let z : a ≡ 0 = eqb-true a 0 e in
    record { size = rw z (zero-size p); sign = λ h. absurd (h refl); normal = inr refl }
found-by false negative a p e = above negative a p (omega (arith, eqb-false a 0 e))

pub found : (negative : Bool) (a : ℕ) (p : ℤ) → Value negative a p (value_of negative a p)
unfolding value_of
found negative a p = found-by (eqb a 0) negative a p refl

-- ---- and no other

pub same-sym : {a b : ℕ} {p q : ℤ} → SameSize a p b q → SameSize b q a p
same-sym s = record { m = s.n; n = s.m; powers = sym s.powers; numbers = sym s.numbers }

pub same-trans : {a b c : ℕ} {p q r : ℤ} → SameSize a p b q → SameSize b q c r → SameSize a p c r
same-trans {a} {b} {c} {p} {q} {r} s t =
    record {
      m = s.m + t.m;
      n = t.n + s.n;
      powers =
          plus-plus p t.n s.n ∙ plus-swap p (pos t.n) (pos s.n)
          ∙ ap (λ (x : ℤ). x +ℤ pos t.n) s.powers
          ∙ plus-swap q (pos s.m) (pos t.n) ∙ ap (λ (x : ℤ). x +ℤ pos s.m) t.powers
          ∙ plus-swap r (pos t.m) (pos s.m) ∙ sym (plus-plus r s.m t.m);
      numbers =
          ap (λ (x : ℕ). a * x) (pow-add 10 s.m t.m) ∙ sym (mul_assoc a (10 ^ s.m) (10 ^ t.m))
          ∙ ap (λ (x : ℕ). x * 10 ^ t.m) s.numbers ∙ mul_right_comm b (10 ^ s.n) (10 ^ t.m)
          ∙ ap (λ (x : ℕ). x * 10 ^ s.n) t.numbers ∙ mul_assoc c (10 ^ t.n) (10 ^ s.n)
          ∙ ap (λ (x : ℕ). c * x) (sym (pow-add 10 t.n s.n));
    }

-- a number that ten does not divide has no power of ten above the first to spare
no-spare : (a b m k : ℕ) → a * 10 ^ m ≡ b * 10 ^ (suc k + m) → (a % 10 ≡ 0 → ⊥) → ⊥
no-spare a b m k e h =
    let q : a ≡ b * 10 ^ suc k =
    ten-cancel a (b * 10 ^ suc k) m (e ∙ rw (pow-add 10 (suc k) m) (sym (mul_assoc b (10 ^ suc k) (10 ^ m)))) in
    let g : a ≡ b * 10 ^ k * 10 =
    q ∙ rw (ten-suc k, mul_comm 10 (10 ^ k)) (sym (mul_assoc b (10 ^ k) 10)) in
    h (rw g (mul-mod_left (b * 10 ^ k) 10))

data Order (m n : ℕ) : Type 0 where
  less : (k : ℕ) → suc k + m ≡ n → Order m n
  equal : m ≡ n → Order m n
  more : (k : ℕ) → suc k + n ≡ m → Order m n

order : (m n : ℕ) → Order m n
order zero zero = equal refl
order zero (suc n) = less n (omega arith)
order (suc m) zero = more m (omega arith)
order (suc m) (suc n) = next (order m n)
  where
    next : Order m n → Order (suc m) (suc n)
    next (less k e) = less k (omega arith)
    next (equal e) = equal (ap suc e)
    next (more k e) = more k (omega arith)

pub bare-one : {a b : ℕ} {p q : ℤ} → SameSize a p b q → (a % 10 ≡ 0 → ⊥) → (b % 10 ≡ 0 → ⊥) → (a ≡ b) × (p ≡ q)
bare-one {a} {b} {p} {q} s ha hb = by_order (order s.m s.n)
  where
    by_order : Order s.m s.n → (a ≡ b) × (p ≡ q)
    by_order (less k e) = absurd (no-spare a b s.m k (rw e s.numbers) ha)
    by_order (equal e) =
        (ten-cancel a b s.n (rw e at s.numbers), plus-cancel p q (pos s.n) (rw e at s.powers))
    by_order (more k e) = absurd (no-spare b a s.n k (rw e (sym s.numbers)) hb)

-- what is as large as zero is zero, so ten divides it
zero-bare : {z : ℕ} (a : ℕ) {p q : ℤ} → SameSize z p a q → z ≡ 0 → (a % 10 ≡ 0 → ⊥) → ⊥
zero-bare zero s e h = h refl
zero-bare (suc a) s e h =
    let g = mul-pos {m = suc a} {n = 10 ^ s.n} (omega arith) (ten-pos s.n) in
    let n : 0 * 10 ^ s.m ≡ suc a * 10 ^ s.n = rw e at s.numbers in
    let z = zero-mul (10 ^ s.m) in
    omega arith

pub not-zero : {a : ℕ} → (a % 10 ≡ 0 → ⊥) → a ≡ 0 → ⊥
not-zero h e = h (rw e refl)

same-decimal : {m n : Bool} {a b : ℕ} {p q : ℤ} → m ≡ n → a ≡ b → p ≡ q → decimal m a p ≡ decimal n b q
same-decimal e f g = rw (e, f, g) refl

module _ {negative : Bool} {a : ℕ} {p : ℤ} {v w : Decimal} (x : Value negative a p v) (y : Value negative a p w) where
  between : SameSize v.coefficient v.power w.coefficient w.power
  between = same-trans (same-sym x.size) y.size

  one-by : Normal v → Normal w → v ≡ w
  one-by (inl f) (inl g) =
      let (c, q) = bare-one between f g in
      same-decimal (x.sign (not-zero f) ∙ sym (y.sign (not-zero g))) c q
  one-by (inl f) (inr g) =
      absurd (zero-bare v.coefficient (same-sym between) (ap (λ (u : Decimal). u.coefficient) g) f)
  one-by (inr f) (inl g) = absurd (zero-bare w.coefficient between (ap (λ (u : Decimal). u.coefficient) f) g)
  one-by (inr f) (inr g) = f ∙ sym g

  pub one : v ≡ w
  one = one-by x.normal y.normal
