-- The count of a number's digits, by the powers of ten around it.
-- Assumes nothing.
use mathlib.Core.Path.{◌≡◌, refl, sym, ap}
use mathlib.Core.Bool.{Bool, true, false}
use Prim.Native.Nat.{ℕ, zero, suc, ◌/◌, ◌^◌, ◌<◌, ◌≤◌}
use native.Mathlib.Nat.{lt_of_le_of_lt}
use native.Mathlib.Omega.{arith}
use borrow.Author.Tests.{lt-ltb, ltb-true, ltb-false, ne_eqb}
use lib.Dec.{ltb}
use Rattle.paper_number.proofs.Tens.{ten-suc, ten-pos, ten-lt}
use Rattle.paper_number.specs.Count.{count_from, count, significant}

-- n is one more than the exponent of the largest power of ten that is not above v
pub record Counted (n v : ℕ) : Type 0 where
  pub less : ℕ
  pub same : n ≡ suc less
  pub least : 10 ^ less ≤ v
  pub most : v < 10 ^ suc less

counted : (n : ℕ) (t : Bool) (v : ℕ) → ltb v 10 ≡ t → v ≤ n → 0 < v → Counted (count_from n t v) v
unfolding count_from
counted zero t v e l h = absurd (omega arith)
counted (suc n) true v e l h =
    record { less = 0; same = refl; least = omega arith; most = omega (arith, ltb-true v 10 e) }
counted (suc n) false v e l h =
    let g : 10 ≤ v = ltb-false v 10 e in
    let r = counted n (ltb (v / 10) 10) (v / 10) refl (omega arith) (omega arith) in
    let p = ten-suc r.less in
    let q = ten-suc (suc r.less) in
    record {
      less = suc r.less;
      same = ap suc r.same;
      least = omega (arith, r.least);
      most = omega (arith, r.most);
    }

pub counts : (v : ℕ) → 0 < v → Counted (count v) v
unfolding count
counts v h = counted v (ltb v 10) v refl (omega arith) h

pub count-pos : (v : ℕ) → 0 < count v
unfolding count count_from
count-pos zero = omega arith
count-pos (suc v) = by (ltb (suc v) 10)
  where
    by : (t : Bool) → 0 < count_from (suc v) t (suc v)
    by true = omega arith
    by false = omega arith

pub count_most : (v : ℕ) → 0 < v → v < 10 ^ count v
count_most v h = let r = counts v h in rw r.same r.most

pub same_count : (m n v u : ℕ) (x : Counted m v) (y : Counted n u) → v ≡ u → x.less ≡ y.less
same_count m n v u x y e =
    let a : x.less < suc y.less = ten-lt x.less (suc y.less) (lt_of_le_of_lt x.least (rw e y.most)) in
    let b : y.less < suc x.less =
    ten-lt y.less (suc x.less) (lt_of_le_of_lt y.least (rw (← e) x.most)) in
    omega arith

-- a number below ten has one digit, any other one more than without its last
pub count-one : (v : ℕ) → v < 10 → count v ≡ 1
unfolding count count_from
count-one zero h = refl
count-one (suc v) h = rw (lt-ltb (suc v) 10 h) refl

pub count-more : (v : ℕ) → 10 ≤ v → count v ≡ suc (count (v / 10))
count-more v h =
    let x = counts v (omega arith) in
    let y = counts (v / 10) (omega arith) in
    let p = ten-suc x.less in
    let q = ten-suc y.less in
    let r = ten-suc (suc y.less) in
    let a : x.less < suc (suc y.less) = ten-lt x.less (suc (suc y.less)) (omega (arith, x.least, y.most)) in
    let b : suc y.less < suc x.less = ten-lt (suc y.less) (suc x.less) (omega (arith, y.least, x.most)) in
    omega (arith, x.same, y.same)

-- a number below 10 ^ m has at most m digits
pub count-short : (v m : ℕ) → 0 < m → v < 10 ^ m → count v ≤ m
count-short zero m h l = rw (count-one zero (omega arith)) h
count-short (suc v) m h l =
    let x = counts (suc v) (omega arith) in
    let k : x.less < m = ten-lt x.less m (lt_of_le_of_lt x.least l) in
    omega (arith, x.same)

-- by the powers of ten around it
pub count-is : (i v : ℕ) → (0 < i → 10 ^ i ≤ v) → v < 10 ^ suc i → count v ≡ suc i
count-is zero v h l = count-one v l
count-is (suc i) v h l =
    let p : 10 ^ suc i ≤ v = h (omega arith) in
    let x = counts v (omega (arith, ten-pos (suc i))) in
    let a : x.less < suc (suc i) = ten-lt x.less (suc (suc i)) (lt_of_le_of_lt x.least l) in
    let b : suc i < suc x.less = ten-lt (suc i) (suc x.less) (lt_of_le_of_lt p x.most) in
    omega (arith, x.same)

pub significant-is : (i : ℕ) {v : ℕ} → 10 ^ i ≤ v → v < 10 ^ suc i → suc i ≡ significant v
significant-is i {v} h l = rw (ne_eqb v 0 (λ z. omega (arith, ten-pos i))) (sym (count-is i v (λ _. h) l))
