-- The closed form is ahead of every other field that reads to the value, or the same; and it reads to the value itself.
-- Assumes nothing.
use mathlib.Core.Path.{◌≡◌, refl, sym, ap, ◌∙◌}
use mathlib.Core.Bool.{Bool, true, false, cond}
use mathlib.Core.Logic.{◌⊎◌, inl, inr}
use Prim.Native.Nat.{ℕ, zero, suc, ◌+◌, ◌-◌, ◌*◌, ◌%◌, ◌^◌, ◌<◌, ◌≤◌}
use native.Mathlib.Nat.{eq-or-lt_of_le, lt_of_le_of_lt, lt_of_lt_of_le, add-zero, mul-one, mul-lt-mul_of_pos_right}
use native.Mathlib.Omega.{arith}
use borrow.Author.Tests.{leb-true, leb-false, eqb-true, eqb-false}
use lib.Dec.{leb, eqb}
use lib.Pow.{pow-add}
use lib.IntN.{ℤ, pos, negsuc, ◌+ℤ◌, +ℤ_idr}
use Rattle.paper_number.specs.Grammar.{num, minus, by_sign, power, GoodTail, Field, GoodField}
use Rattle.paper_number.specs.Value.{decimal, digits_of, power_of, Means}
use Rattle.std.specs.Prelude.{Option, Some, None}
use Rattle.paper_canonical.specs.declared.types.Exponent as T
use Rattle.paper_canonical.specs.declared.types.Layout.{Layout}
use Rattle.paper_canonical.specs.Canonical.{blanks_behind}
use Rattle.paper_canonical.specs.Closed.{digits_n, plain_layout, raised_by, layout_up, layout_down, layout_of}
use Rattle.paper_number.specs.Count.{count}
use Rattle.paper_canonical.specs.Closed.{places}
use Rattle.paper_canonical.specs.Closed.{sign_of, tail_of, laid_out}
use Rattle.paper_number.proofs.Tens.{ten-suc, ten-pos, ten-le, ten-lt}
use Rattle.paper_canonical.proofs.Digits.{digits_n-length, digits_n-digits, digits_n-num}
use Rattle.paper_number.proofs.Count.{Counted, counts, count-pos, count_most}
use Rattle.paper_canonical.proofs.Sizes.{pos-to, neg-to}
use Rattle.paper_canonical.proofs.Says.{Says}
use Rattle.paper_canonical.proofs.Laid.{laid-digits, laid-length, laid-num}
use Rattle.paper_canonical.proofs.First.{Beats, first-whole, first-ten, first-up}
use Rattle.paper_canonical.proofs.First.{first-among, first-behind, first-down}

-- ---- what an exponent below zero is

-- t is the power's size and d the digits' count: the exponent e has as many digits as t - d, f digits stand behind the
-- point, and as few as that allows
pub record Exponent (d t f : ℕ) : Type 0 where
  pub x : Counted (count (t - f)) (t - f)
  pub few : f ≤ d
  pub less : f < t
  pub is : f ≡ t - (10 * 10 ^ x.less - 1)
  pub low : 10 ^ x.less + d ≤ t
  pub high : t < 10 * 10 ^ x.less + d
  pub long : count (t - f) ≡ count (t - d)

pub exponent : (d t : ℕ) → d + 3 ≤ t → Exponent d t (places d t)
exponent d t h =
    let f = places d t in
    let z = counts (t - d) (rest t d h) in
    let W = 10 ^ z.less in
    let o = ten-pos z.less in
    let pl : f ≡ t - (10 * W - 1) = rw (z.same, ten-suc z.less) refl in
    let zm : t - d < 10 * W = rw (← ten-suc z.less) z.most in
    let lo : W ≤ t - f = rw pl (low_end t d W z.least zm o h) in
    let hi : t - f < 10 ^ suc z.less = rw (pl, ten-suc z.less) (high_end t W o) in
    let x = counts (t - f) (lt_of_lt_of_le o lo) in
    let e : x.less ≡ z.less =
    both x.less z.less (ten-lt x.less (suc z.less) (lt_of_le_of_lt x.least hi))
    (ten-lt z.less (suc x.less) (lt_of_le_of_lt lo x.most)) in
    record {
      x = x;
      few = rw pl (few-end t d W zm o);
      less = rw pl (less-end t d W zm o h);
      is = rw e pl;
      low = rw e (add_back t d W z.least h);
      high = rw e (add-back-lt t d (10 * W) zm);
      long = x.same ∙ rw e (sym z.same);
    }
  where
    rest : (t d : ℕ) → d + 3 ≤ t → 0 < t - d
    rest t d h = omega arith

    both : (a b : ℕ) → a < suc b → b < suc a → a ≡ b
    both a b p q = omega arith

    add_back : (t d w : ℕ) → w ≤ t - d → d + 3 ≤ t → w + d ≤ t
    add_back t d w p q = omega arith

    add-back-lt : (t d w : ℕ) → t - d < w → t < w + d
    add-back-lt t d w p = omega arith

    high_end : (t w : ℕ) → 0 < w → t - (t - (10 * w - 1)) < 10 * w
    high_end t w p = omega arith

    low_end : (t d w : ℕ) → w ≤ t - d → t - d < 10 * w → 0 < w → d + 3 ≤ t → w ≤ t - (t - (10 * w - 1))
    low_end t d w a b p k = omega arith

    few-end : (t d w : ℕ) → t - d < 10 * w → 0 < w → t - (10 * w - 1) ≤ d
    few-end t d w a p = omega arith

    less-end : (t d w : ℕ) → t - d < 10 * w → 0 < w → d + 3 ≤ t → t - (10 * w - 1) < t
    less-end t d w a p h = omega arith

-- where p is a power of ten, p - 1 has one digit less
module _ (p : ℕ) (h : 3 ≤ p) where
  pub power-of-ten : (x : Counted (count (p - 1)) (p - 1)) → p ≡ 10 ^ (count p - 1) → p ≡ 10 * 10 ^ x.less
  power-of-ten x e =
      by y.less (e ∙ ap (λ (k : ℕ). 10 ^ (k - 1)) y.same ∙ ap (λ (k : ℕ). 10 ^ k) (one_less y.less))
    where
      y : Counted (count p) p
      y = counts p (omega arith)

      one_less : (k : ℕ) → suc k - 1 ≡ k
      one_less k = omega arith

      by : (k : ℕ) → p ≡ 10 ^ k → p ≡ 10 * 10 ^ x.less
      by zero q = absurd (omega arith)
      by (suc k) q =
          let t = ten-suc k in
          let o = ten-pos k in
          let a : k < suc x.less = ten-lt k (suc x.less) (omega (arith, x.most)) in
          let b : x.less < suc k = ten-lt x.less (suc k) (omega (arith, x.least)) in
          let c : x.less ≡ k = omega arith in
          rw c (q ∙ t)

  no-power-of-ten : (x : Counted (count p) p) → (p ≡ 10 ^ (count p - 1) → ⊥) → 10 ^ x.less < p
  no-power-of-ten x n = by (eq-or-lt_of_le x.least)
    where
      by : (10 ^ x.less ≡ p) ⊎ (10 ^ x.less < p) → 10 ^ x.less < p
      by (inl e) =
          let k : x.less ≡ count p - 1 = omega (arith, x.same) in
          absurd (n (sym e ∙ ap (λ (k : ℕ). 10 ^ k) k))
      by (inr l) = l

-- ---- a layout has room for the coefficient's digits

module _ (c : ℕ) (h : 0 < c) where
  fits_more : (p : ℕ) → c * 10 ^ p < 10 ^ (count c + p + 0)
  fits_more p = rw (add-zero, pow-add 10 (count c) p) (mul-lt-mul_of_pos_right (count_most c h) (ten-pos p))

  fits-plain : (a b : ℕ) → count c ≤ a + b → c * 10 ^ 0 < 10 ^ (a + b)
  fits-plain a b l = rw (mul-one c) (lt_of_lt_of_le (count_most c h) (ten-le l))

-- ---- the closed form, case by case: P is what is to be shown of each form
module _ (c : ℕ) (h : 0 < c) (P : Layout → Type 0) where
  module _ (p : ℕ)
      (whole : p ≤ 2 → c * 10 ^ p < 10 ^ (count c + p + 0) → P (plain_layout (count c + p) 0 p))
      (more : 3 ≤ p → (x : Counted (count (p - 1)) (p - 1)) → p ≡ 10 * 10 ^ x.less
      → c * 10 ^ 1 < 10 ^ (count c + 1 + 0) → P (raised_by (count c + 1) 0 1 false (p - 1)))
      (same : 3 ≤ p → (x : Counted (count p) p) → 10 ^ x.less < p
      → c * 10 ^ 0 < 10 ^ (count c + 0) → P (raised_by (count c) 0 0 false p)) where
    by-up : (t u : Bool) → leb p 2 ≡ t → eqb p (10 ^ (count p - 1)) ≡ u
        → P (cond t (plain_layout (count c + p) 0 p)
        (cond u (raised_by (count c + 1) 0 1 false (p - 1)) (raised_by (count c) 0 0 false p)))
    by-up true u e d = whole (leb-true p 2 e) (fits_more c h p)
    by-up false true e d =
        let l : 3 ≤ p = leb-false p 2 e in
        let x = counts (p - 1) (omega arith) in
        more l x (power-of-ten p l x (eqb-true p (10 ^ (count p - 1)) d)) (fits_more c h 1)
    by-up false false e d =
        let l : 3 ≤ p = leb-false p 2 e in
        let x = counts p (omega arith) in
        same l x (no-power-of-ten p l x (eqb-false p (10 ^ (count p - 1)) d)) (fits-plain c h (count c) 0 (omega arith))

    pub each-up : P (layout_up (count c) p)
    unfolding layout_up
    each-up = by-up (leb p 2) (eqb p (10 ^ (count p - 1))) refl refl

  module _ (t : ℕ)
      (among : t ≤ count c → c * 10 ^ 0 < 10 ^ (count c - t + t) → P (plain_layout (count c - t) t 0))
      (blanks_behind : count c < t → t ≤ count c + 2 → c * 10 ^ 0 < 10 ^ (0 + t) → P (plain_layout 0 t 0))
      (raised : (f : ℕ) → count c + 3 ≤ t → Exponent (count c) t f
      → c * 10 ^ 0 < 10 ^ (count c - f + f) → P (raised_by (count c - f) f 0 true (t - f))) where
    by_down : (u v : Bool) → leb t (count c) ≡ u → leb t (count c + 2) ≡ v
        → P (cond u (plain_layout (count c - t) t 0) (cond v (plain_layout 0 t 0)
        (raised_by (count c - places (count c) t) (places (count c) t) 0 true (t - places (count c) t))))
    by_down true v e d = let l = leb-true t (count c) e in among l (fits-plain c h (count c - t) t (omega arith))
    by_down false true e d =
        let l = leb-false t (count c) e in
        blanks_behind l (leb-true t (count c + 2) d) (fits-plain c h 0 t (omega arith))
    by_down false false e d =
        let l : count c + 3 ≤ t = more t (count c) (leb-false t (count c + 2) d) in
        let f = places (count c) t in
        let x = exponent (count c) t l in
        raised f l x (fits-plain c h (count c - f) f (again (count c) f x.few))
      where
        more : (t d : ℕ) → d + 2 < t → d + 3 ≤ t
        more t d h = omega arith

        again : (d f : ℕ) → f ≤ d → d ≤ d - f + f
        again d f h = omega arith

    pub each-down : P (layout_down (count c) t)
    unfolding layout_down
    each-down = by_down (leb t (count c)) (leb t (count c + 2)) refl refl

-- ---- it is ahead

pub first : (n : Bool) (c : ℕ) (p : ℤ) → 0 < c → (g : Field) → GoodField g → Says g n c p
    → Beats (laid_out n c (layout_of (count c) p)) g
first n c (pos p) h g good s =
    let r = counts c h in
    each-up c h (λ (l : Layout). Beats (laid_out n c l) g) p
    (λ l f. first-whole n c r g good p s l f)
    (λ l x e f. first-ten n c r g good p s x e f)
    (λ l x e f. first-up n c r g good p s x l e f)
first n c (negsuc q) h g good s =
    let r = counts c h in
    each-down c h (λ (l : Layout). Beats (laid_out n c l) g) (suc q)
    (λ l f. first-among n c r g good q s l f)
    (λ l m f. first-behind n c r g good q s l m f)
    (λ k l x f. first-down n c r g good q s k x.x l x.is x.low x.high f)

-- ---- it reads to the value

minus-sign : (n : Bool) → minus (sign_of n) ≡ n
minus-sign true = refl
minus-sign false = refl

good-tail : (s : Bool) (n e : ℕ) → 0 < n → GoodTail (power (by_sign 0 s) (digits_n n e))
good-tail s n e h = (digits_n-digits n e, rw (digits_n-length n e) h)

no-blank : (x : Option T.Exponent) → blanks_behind (tail_of x) ≡ 0
no-blank (Some e) = refl
no-blank None = refl

-- a field that is well formed, reads to the value, and has no blanks behind
pub record Fine (n : Bool) (c : ℕ) (p : ℤ) (f : Field) : Type 0 where
  pub good : GoodField f
  pub says : Means f (decimal n c p)
  pub right : blanks_behind f.tail ≡ 0

module _ (n : Bool) (c : ℕ) (nz : c % 10 ≡ 0 → ⊥) (p : ℤ) where
  abbrev Says-value : Layout → Type 0
  Says-value l = Fine n c p (laid_out n c l)

  fine : (l : Layout) → c * 10 ^ l.zeros < 10 ^ (l.whole + l.part) → 1 ≤ l.whole + l.part
      → GoodTail (tail_of l.exponent) → power_of (laid_out n c l) +ℤ pos l.zeros ≡ p → Says-value l
  unfolding laid_out
  fine l fits some e pw =
      record {
        good = record {
          digits = laid-digits n c l;
          some = rw (laid-length n c l) some;
          tail = e;
        };
        says = record {
          size = record {
            m = 0;
            n = l.zeros;
            powers = pw ∙ sym (+ℤ_idr p);
            numbers = mul-one (digits_of (laid_out n c l)) ∙ laid-num n c l fits;
          };
          sign = λ z. sym (minus-sign n);
          normal = inl nz;
        };
        right = no-blank l.exponent;
      }

pub exponent-num : (e : ℕ) → 0 < e → num (digits_n (count e) e) ≡ e
exponent-num e h = digits_n-num (count e) e (count_most e h)

pub found : (n : Bool) (c : ℕ) (p : ℤ) → 0 < c → (c % 10 ≡ 0 → ⊥) → Fine n c p (laid_out n c (layout_of (count c) p))
unfolding laid_out digits_n
found n c (pos p) h nz =
    let r = counts c h in
    each-up c h (λ (l : Layout). Fine n c (pos p) (laid_out n c l)) p
    (λ l f. fine n c nz (pos p) (plain_layout (count c + p) 0 p) f (omega (arith, r.same)) tt
    (pos-to false 0 0 p p (omega arith)))
    (λ l x e f. fine n c nz (pos p) (raised_by (count c + 1) 0 1 false (p - 1)) f (omega arith) (good-tail false (count (p - 1)) (p - 1) (count-pos (p - 1)))
    (rw (exponent-num (p - 1) (omega arith)) (pos-to false (p - 1) 0 1 p (omega arith))))
    (λ l x e f. fine n c nz (pos p) (raised_by (count c) 0 0 false p) f (omega (arith, r.same)) (good-tail false (count p) p (count-pos p))
    (rw (exponent-num p (omega arith)) (pos-to false p 0 0 p (omega arith))))
found n c (negsuc q) h nz =
    let r = counts c h in
    each-down c h (λ (l : Layout). Fine n c (negsuc q) (laid_out n c l)) (suc q)
    (λ l f. fine n c nz (negsuc q) (plain_layout (count c - suc q) (suc q) 0) f (omega arith) tt
    (rw (digits_n-length (suc q) (c * 10 ^ 0)) (neg-to false 0 (suc q) 0 q (omega arith))))
    (λ l m f. fine n c nz (negsuc q) (plain_layout 0 (suc q) 0) f (omega arith) tt
    (rw (digits_n-length (suc q) (c * 10 ^ 0)) (neg-to false 0 (suc q) 0 q (omega arith))))
    (λ k l x f. fine n c nz (negsuc q) (raised_by (count c - k) k 0 true (suc q - k)) f
    (some (count c) k r.less r.same) (good-tail true (count (suc q - k)) (suc q - k) (count-pos (suc q - k)))
    (rw (exponent-num (suc q - k) (left (suc q) k x.less), digits_n-length k (c * 10 ^ 0))
    (neg-to true (suc q - k) k 0 q (back (suc q) k x.less))))
  where
    some : (d k l : ℕ) → d ≡ suc l → 1 ≤ d - k + k
    some d k l e = omega arith

    left : (t k : ℕ) → k < t → 0 < t - k
    left t k h = omega arith

    back : (t k : ℕ) → k < t → 0 + 0 + t ≡ k + (t - k)
    back t k h = omega arith
