-- How large a value can be that a field of w columns says.
--
-- Of its columns one goes to the point. With an exponent two more go to the exponent's first character and one digit of
-- the number, and each further digit costs a column, which makes the exponent ten times smaller: so the exponent's size
-- and the count of digits together stay below the power 10 ^ (w - 3) (`tail-room`), and the power of ten with them.
-- Assumes nothing.
use mathlib.Core.Path.{◌≡◌, refl, sym, ap}
use mathlib.Core.Bool.{Bool, true, false, cond}
use mathlib.Core.List.{List, [], ◌∷◌, ◌++◌}
use Prim.Native.Nat.{ℕ, zero, suc, ◌+◌, ◌-◌, ◌*◌, ◌^◌, ◌<◌, ◌≤◌}
use native.Mathlib.Nat.{zero-add, mul-one, zero-mul, mul-le-mul_left, mul-le-mul_right, mul_assoc, one-mul}
use native.Mathlib.Nat.{le_trans, le_of_eq, lt_of_lt_of_le}
use native.Mathlib.Omega.{arith}
use borrow.Author.Tests.{eqb-false}
use lib.Dec.{eqb}
use lib.IntN.{ℤ, pos, ◌+ℤ◌, ◌-ℤ◌}
use lib.ListN.{length, length-append, length-replicate}
use lib.Signed.{mag}
use Rattle.paper_number.specs.Grammar.{Digits, digits_text, num_from, num, minus}
use Rattle.paper_number.specs.Grammar.{Opening, by_sign, by_mark, by_bare, open_text, below, Tail, plain, power, tail_text}
use Rattle.paper_number.specs.Grammar.{GoodTail, Field, write, GoodField}
use Rattle.paper_number.specs.Value.{decimal, zero_decimal, signed_by, exponent_of, trim, value_of, meaning, WithinColumns}
use Rattle.paper_number.proofs.Tens.{ten-suc, ten-pos, ten-le, ten-gap, ten-lt}
use Rattle.paper_number.proofs.Sums.{up_of, down_of, power-sum, diff-size, size-least, size-most}
use Rattle.paper_number.proofs.Equation.{trim-bare}

-- ---- the number of a list of digits

num_from-lt : (a : ℕ) (l : List ℕ) → Digits l → num_from a l < (a + 1) * 10 ^ length l
num_from-lt a [] h = omega arith
num_from-lt a (d ∷ l) h =
    let p = 10 ^ length l in
    let q : a * 10 + 10 ≡ (a + 1) * 10 = omega arith in
    let g : a * 10 + d + 1 ≤ a * 10 + 10 = omega (arith, h.0) in
    lt_of_lt_of_le (num_from-lt (a * 10 + d) l h.1)
    (le_trans (mul-le-mul_right p g) (le_of_eq (rw (ten-suc (length l), q) (mul_assoc (a + 1) 10 p))))

pub num-lt : (l : List ℕ) → Digits l → num l < 10 ^ length l
num-lt l h = omega (arith, num_from-lt 0 l h)

-- ---- columns

pub text-length : (ds : List ℕ) → length (digits_text ds) ≡ length ds
text-length [] = refl
text-length (d ∷ ds) = ap suc (text-length ds)

open-length : (o : Opening) → 1 ≤ length (open_text o)
open-length (by_sign k g) = simp length-append (omega arith)
open-length (by_mark k g) = simp length-append (omega arith)
open-length (by_bare k j) = simp length-append (omega arith)

-- the digits, the point and the tail
columns : (f : Field) → length (f.whole ++ f.part) + 1 + length (tail_text f.tail) ≤ length (write f)
unfolding write
columns f = simp (length-append, length-replicate, text-length) (omega arith)

-- ---- the exponent

abbrev below_of : Tail → Bool
below_of (plain k) = false
below_of (power o ds) = below o

abbrev size_of : Tail → ℕ
size_of (plain k) = 0
size_of (power o ds) = num ds

exponent-parts : (t : Tail) → exponent_of t ≡ signed_by (below_of t) (size_of t)
exponent-parts (plain k) = refl
exponent-parts (power o ds) = refl

tail-room : (w n : ℕ) (t : Tail) → GoodTail t → 4 ≤ w → 1 ≤ n → n + 1 + length (tail_text t) ≤ w
    → size_of t + n ≤ 10 ^ (w - 3)
tail-room w n (plain k) h l m c =
    let g : 10 ^ 0 + 9 * (w - 3) ≤ 10 ^ (w - 3) = rw zero-add at (ten-gap 0 (w - 3)) in
    omega arith
tail-room w n (power o ds) h l m c =
    let x = length ds in
    let q : length (open_text o ++ digits_text ds) ≡ length (open_text o) + x = simp (length-append, text-length) refl in
    let o1 = open-length o in
    let g : 10 ^ x + 9 * (n - 1) ≤ 10 ^ (x + (n - 1)) = ten-gap x (n - 1) in
    let i : 10 ^ (x + (n - 1)) ≤ 10 ^ (w - 3) = ten-le (omega arith) in
    let e : num ds < 10 ^ x = num-lt ds h.0 in
    omega arith

-- ---- the value

-- a number's part without its last zeros is no larger
part-le : (c k : ℕ) → c ≤ c * 10 ^ k
part-le c k = le_trans (le_of_eq (sym (mul-one c))) (mul-le-mul_left c (ten-pos k))

-- and a number above zero has more digits than last zeros
zeros-lt : (N c k n : ℕ) → 0 < N → N ≡ c * 10 ^ k → N < 10 ^ n → k < n
zeros-lt N zero k n h e l = absurd (omega (arith, zero-mul (10 ^ k)))
zeros-lt N (suc c) k n h e l =
    let g : 1 * 10 ^ k ≤ suc c * 10 ^ k = mul-le-mul_right (10 ^ k) (omega arith) in
    ten-lt k n (omega (arith, one-mul (10 ^ k)))

module _ (w : ℕ) (g : Bool) (N n places : ℕ) (t : Tail) (room : size_of t + n ≤ 10 ^ (w - 3)) (short : n ≤ w - 1)
    (digits : N < 10 ^ n) (behind : places ≤ n) where
  power_size : (k : ℕ) → k < n → mag (exponent_of t -ℤ pos places +ℤ pos k) < 10 ^ (w - 3)
  power_size k l =
      rw (exponent-parts t, power-sum (below_of t) (size_of t) places k)
      (diff-size (up_of (below_of t) (size_of t) k) (down_of (below_of t) (size_of t) places) (10 ^ (w - 3))
      (up (below_of t)) (down (below_of t)))
    where
      up : (b : Bool) → up_of b (size_of t) k < 10 ^ (w - 3)
      up true = omega arith
      up false = omega arith

      down : (b : Bool) → down_of b (size_of t) places ≤ 10 ^ (w - 3)
      down true = omega arith
      down false = omega arith

  above : 0 < N → WithinColumns w (decimal g (trim N).number (exponent_of t -ℤ pos places +ℤ pos (trim N).zeros))
  above h =
      let r = trim-bare N h in
      let c = (trim N).number in
      let k = r.k in
      let z : (trim N).zeros ≡ k = omega (arith, r.zeros) in
      let p = exponent_of t -ℤ pos places +ℤ pos (trim N).zeros in
      let s : mag p < 10 ^ (w - 3) = rw z (power_size k (zeros-lt N c k n h r.whole digits)) in
      let d : 10 ^ n ≤ 10 ^ (w - 1) = ten-le short in
      record {
        coefficient = omega (arith, part-le c k, r.whole);
        least = size-least (10 ^ (w - 3)) p s;
        most = size-most (10 ^ (w - 3)) p s;
      }

  within_by : (z : Bool) → eqb N 0 ≡ z
      → WithinColumns w (cond z zero_decimal (decimal g (trim N).number (exponent_of t -ℤ pos places +ℤ pos (trim N).zeros)))
  within_by true e =
      record {
        coefficient = ten-pos (w - 1);
        least = size-least (10 ^ (w - 3)) (pos 0) (ten-pos (w - 3));
        most = size-most (10 ^ (w - 3)) (pos 0) (ten-pos (w - 3));
      }
  within_by false e = above (omega (arith, eqb-false N 0 e))

pub within : (w : ℕ) (f : Field) → GoodField f → 4 ≤ w → length (write f) ≤ w → WithinColumns w (meaning f)
unfolding value_of
within w f h l m =
    let ds = f.whole ++ f.part in
    let c = columns f in
    within_by w (minus f.sign) (num ds) (length ds) (length f.part) f.tail
    (tail-room w (length ds) f.tail h.tail l h.some (omega arith)) (omega arith)
    (num-lt ds h.digits) (simp length-append (omega arith)) (eqb (num ds) 0) refl
