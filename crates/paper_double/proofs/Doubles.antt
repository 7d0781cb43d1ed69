-- What the doubles are (document 02, M-107):
--
--   "the double is the coefficient times, or divided by, the exact power of ten, rounded once by that one operation,
--   negated where negative. Where the value is a whole number below 2 to the 53rd in size, the double is exactly it.
--   Prove the ten-digit coefficient loses nothing on its way."
--
-- `HasValue x s a c` says that x is finite, has the sign s, and is a / c in size; `round` gives the double that is nearest
-- to a fraction, of two the one whose last digit is even.
-- Assumes nothing.
use mathlib.Core.Path.{◌≡◌, refl, sym, ap, ◌∙◌, subst}
use mathlib.Core.Bool.{Bool, true, false, not, cond}
use Prim.Native.Nat.{ℕ, zero, suc, ◌+◌, ◌-◌, ◌*◌, ◌%◌, ◌^◌, ◌≤◌, ◌<◌}
use native.Mathlib.Nat.{mul-one, one-mul, mul_comm, mul_assoc, mul-mul-mul_comm, mul-pos, zero-lt-suc, le_trans, le_of_lt, lt_of_le_of_lt, lt_of_lt_of_le, mul-le-mul, pow-suc, pow-le-pow_right, one-le-pow, mul_left_comm, mul-le-mul_right, mul-mod_left, eq_of_mul-eq-mul_right, zero-mul}
use native.Mathlib.Omega.{arith}
use borrow.Author.Tests.{ne_eqb, leb-true, leb-false, le-leb, ltb-false}
use lib.Dec.{T, le→leb, lit<, ltb, leb}
use lib.IntN.{ℤ, pos, negsuc, nat_abs, ◌+ℤ◌}
use mathlib.Core.Logic.{◌⊎◌, inl, inr}
use Rattle.paper_number.specs.Value.{Value, Normal}
use lib.Pow.{pow-add, pow_pos, pow_mono, shl_lt}
use lib.Ieee.{Float, nan, inf, fin, Format, binary64, prec, emax, low, up, down, unlike, odd, units, round, mul, div, neg, of_int, of_bits, in_float, to_unsigned}
use lib.Ieee.Fits.{up_pos, down_pos, round_is}
use lib.Ieee.Exact.{HasValue, round_exact}
use lib.Ieee.Back.{round_whole, unsigned_back}
use lib.Ieee.Scale.{round_same}
use Rattle.paper_number.specs.declared.types.Decimal.{Decimal}
use Rattle.paper_double.specs.declared.types.Simple.TheVariants.{Double, Outside}
use Rattle.paper_number.specs.Value.{zero_decimal}
use Rattle.paper_double.specs.Double.{plus_zero, whole, times, divided, sized, signed_by, in_range, TEN-DIGITS, is_simple, simple_of}
use Rattle.paper_double.specs.Claims.{over, under, Exactly, CoefficientKept, TenExact, RoundedOnce, WholeDouble, DownExample, ZeroDouble, FieldTen, FieldWhole, FieldSimple}
use Rattle.paper_double.specs.Claims.{ZeroField, OutsideExactly}
use Rattle.laws.proofs.Booleans.{differ, and_left, and_right}
use mathlib.Core.Logic.{◌↔◌}
use Rattle.paper_number.proofs.Equation.{not-zero}
use Rattle.paper_number.proofs.Laws.{read-bounds-eleven, reads-exactly}

-- ---- whole numbers

-- up to 2 to the 53rd the double of a whole number is that number
pub whole-exact : (n : ℕ) → n ≤ 2 ^ 53 → HasValue (whole n) false n 1
unfolding of_int
whole-exact n h = round_whole binary64 false n h

-- "Prove the ten-digit coefficient loses nothing on its way": it is the double's value, and comes back from it
pub coefficient-kept : CoefficientKept
unfolding in_float
coefficient-kept c h =
    let s : c ≤ 2 ^ 53 = omega arith in
    (whole-exact c s, (unsigned_back binary64 64 c (le→leb c (2 ^ 53) s) (omega arith)).1)

-- ---- "the exact power of ten"

ten-five : (k : ℕ) → 10 ^ k ≡ 5 ^ k * 2 ^ k
ten-five zero = refl
ten-five (suc k) =
    pow-suc 10 k ∙ ap (λ (x : ℕ). x * 10) (ten-five k) ∙ mul-mul-mul_comm (5 ^ k) (2 ^ k) 5 2
    ∙ ap (λ (x : ℕ). x * (2 ^ k * 2)) (sym (pow-suc 5 k)) ∙ ap (λ (x : ℕ). 5 ^ suc k * x) (sym (pow-suc 2 k))

five-small : (k : ℕ) → k ≤ 22 → 5 ^ k < 2 ^ 53
five-small k h = lt_of_le_of_lt (pow-le-pow_right {n = 5} (zero-lt-suc 4) h) (lit< tt)

-- a double holds ten to the k as five to the k, which is below 2 to the 53rd, times two to the k
pub ten-exact : TenExact
unfolding of_int
ten-exact k h =
    round_exact binary64 false (10 ^ k) 1 (5 ^ k) (k + 1074) (zero-lt-suc 0) (five-small k h)
    (lt_of_lt_of_le (shl_lt 53 (k + 1074) (five-small k h)) (pow_mono {i = 53 + (k + 1074)} {j = 2098} (omega arith)))
    (ap (λ (x : ℕ). x * 2 ^ 1074) (ten-five k) ∙ mul_assoc (5 ^ k) (2 ^ k) (2 ^ 1074)
    ∙ ap (λ (x : ℕ). 5 ^ k * x) (sym (pow-add 2 k 1074)) ∙ sym (mul-one (5 ^ k * 2 ^ (k + 1074))))

-- ---- "rounded once by that one operation": the one operation rounds the exact product or quotient

mul-of : (x y : Float) (a b : ℕ) → HasValue x false a 1 → HasValue y false b 1 → mul binary64 x y ≡ round binary64 false (a * b) 1
unfolding mul
mul-of nan y a b h k = absurd h
mul-of (inf s) y a b h k = absurd h
mul-of (fin s m e) nan a b h k = absurd k
mul-of (fin s m e) (inf t) a b h k = absurd k
mul-of (fin s m e) (fin t n d) a b h k =
    rw (h.0, k.0)
    (round_same binary64 false (m * up e * (n * up d)) (down e * down d) (a * b) 1 (mul-pos (down_pos e) (down_pos d)) (zero-lt-suc 0)
    (mul-mul-mul_comm (m * up e) (n * up d) 1 1 ∙ ap (λ (z : ℕ). z * (n * up d * 1)) h.1 ∙ ap (λ (z : ℕ). a * down e * z) k.1
    ∙ mul-mul-mul_comm a (down e) b (down d)))

-- a value above zero has digits
some-digits : (t : Bool) (n : ℕ) (d : ℤ) (b : ℕ) → 0 < b → HasValue (fin t n d) false b 1 → n ≡ 0 → ⊥
some-digits t n d b p k z =
    let q : 0 * up d * 1 ≡ b * down d = rw z at k.1 in
    let r : 0 < b * down d = mul-pos p (down_pos d) in
    omega arith

div-of : (x y : Float) (a b : ℕ) → 0 < b → HasValue x false a 1 → HasValue y false b 1 → div binary64 x y ≡ round binary64 false a b
unfolding div
div-of nan y a b p h k = absurd h
div-of (inf s) y a b p h k = absurd h
div-of (fin s m e) nan a b p h k = absurd k
div-of (fin s m e) (inf t) a b p h k = absurd k
div-of (fin s m e) (fin t n d) a b p h k =
    let z = some-digits t n d b p k in
    let N : 0 < n = omega (arith, z) in
    let x : m * up e ≡ a * down e = sym (mul-one (m * up e)) ∙ h.1 in
    let y : n * up d ≡ b * down d = sym (mul-one (n * up d)) ∙ k.1 in
    rw (ne_eqb n 0 z, h.0, k.0)
    (round_same binary64 false (m * up e * down d) (n * up d * down e) a b
    (mul-pos (mul-pos N (up_pos d)) (down_pos e)) p
    (rw (x, y) (simp (mul_assoc, mul_comm, mul_left_comm))))

-- ---- the two operations

pub times-once : (c k : ℕ) → c ≤ 9999999999 → k ≤ 22 → times c k ≡ round binary64 false (c * 10 ^ k) 1
unfolding times
times-once c k h l = mul-of (whole c) (whole (10 ^ k)) c (10 ^ k) (coefficient-kept c h).0 (ten-exact k l)

pub divided-once : (c k : ℕ) → c ≤ 9999999999 → k ≤ 22 → divided c k ≡ round binary64 false c (10 ^ k)
unfolding divided
divided-once c k h l =
    div-of (whole c) (whole (10 ^ k)) c (10 ^ k) (one-le-pow k 10 (zero-lt-suc 9)) (coefficient-kept c h).0 (ten-exact k l)

-- ---- "negated where negative": the sign is only turned

odd-neg : (d q k l : ℕ) → neg (odd d false q k l) ≡ odd d true q k l
unfolding neg odd
odd-neg d zero k l = refl
odd-neg d (suc q) k l = refl

cond-neg : (t : Bool) (x y u v : Float) → neg x ≡ u → neg y ≡ v → neg (cond t x y) ≡ cond t u v
cond-neg true x y u v h k = h
cond-neg false x y u v h k = k

inf-neg : neg (inf false) ≡ inf true
unfolding neg
inf-neg = refl

units-neg : (q k : ℕ) → neg (units binary64 false q k) ≡ units binary64 true q k
unfolding units
units-neg q k =
    cond-neg (ltb (q * 2 ^ k) (2 ^ 2098)) (odd 54 false q k 1074) (inf false) (odd 54 true q k 1074) (inf true)
    (odd-neg 54 q k 1074) inf-neg

pub signed_round : (n : Bool) (a c : ℕ) → signed_by n (round binary64 false a c) ≡ round binary64 n a c
signed_round false a c = refl
signed_round true a c =
    ap neg (round_is binary64 false a c) ∙ units-neg _ _ ∙ sym (round_is binary64 true a c)

-- ---- the double of a decimal of ten digits at most, in the simple range: the decimal, rounded once

sized-once : (c : ℕ) (p : ℤ) → c ≤ 9999999999 → in_range p ≡ true → sized c p ≡ round binary64 false (over c p) (under p)
sized-once c (pos k) h r = times-once c k h (omega (arith, leb-true k _ r))
sized-once c (negsuc k) h r = divided-once c (suc k) h (omega (arith, leb-true (suc k) _ r))

-- of ten digits and in the range
simple-by : (d : Decimal) → d.coefficient ≤ 9999999999 → in_range d.power ≡ true → is_simple d ≡ true
simple-by d h r = rw (le-leb d.coefficient TEN-DIGITS h, r) refl

rounded-by : (d : Decimal) → d.coefficient ≤ 9999999999 → in_range d.power ≡ true
    → simple_of d ≡ Double (round binary64 d.negative (over d.coefficient d.power) (under d.power))
unfolding simple_of
rounded-by d h r =
    rw (simple-by d h r, sized-once d.coefficient d.power h r, signed_round d.negative (over d.coefficient d.power) (under d.power)) refl

-- ---- "Where the value is a whole number below 2 to the 53rd in size, the double is exactly it"

pub rounded-once : RoundedOnce
rounded-once d e =
    let h = and_left (leb d.coefficient TEN-DIGITS) (in_range d.power) e in
    rounded-by d (leb-true d.coefficient TEN-DIGITS h)
    (and_right (leb d.coefficient TEN-DIGITS) (in_range d.power) e)

few-tens : (c k : ℕ) → 0 < c → c * 10 ^ k < 2 ^ 53 → k ≤ 22
few-tens c k p h = by (leb k 22) refl
  where
    by : (t : Bool) → leb k 22 ≡ t → k ≤ 22
    by true e = leb-true k 22 e
    by false e =
        let g : 10 ^ 23 ≤ 10 ^ k = pow-le-pow_right {n = 10} (zero-lt-suc 9) (leb-false k 22 e) in
        let m : 1 * 10 ^ k ≤ c * 10 ^ k = mul-le-mul_right (10 ^ k) p in
        absurd (omega arith)

-- of a decimal with a power of 0 or more
raised-exactly : (d : Decimal) (k : ℕ) → d.power ≡ pos k → 0 < d.coefficient → d.coefficient ≤ 9999999999
    → d.coefficient * 10 ^ k < 2 ^ 53 → Exactly d (d.coefficient * 10 ^ k)
raised-exactly d k e p c h =
    let r : in_range d.power ≡ true = rw e (le-leb k 22 (few-tens d.coefficient k p h)) in
    record {
      double = round binary64 d.negative (over d.coefficient d.power) (under d.power);
      given = rounded-by d c r;
      same = rw e (round_whole binary64 d.negative (d.coefficient * 10 ^ k) (le_of_lt h));
    }

-- of zero, which is (no, 0, 0): +0
pub zero-double : ZeroDouble
unfolding simple_of times of_int mul
zero-double = refl

pub down-example : DownExample
unfolding simple_of divided of_int div of_bits
down-example = refl

zero-exactly : (d : Decimal) → d ≡ zero_decimal → Exactly d 0
zero-exactly d e = rw e (record { double = fin false 0 (pos 0); given = zero-double; same = (refl, refl) })

-- ---- "a whole number": `Value s n (pos 0) d` says that d is the value of the whole number n with the sign s

-- the factor that both sides have
cancel-tens : (a b m : ℕ) → a * 10 ^ m ≡ b * 10 ^ m → a ≡ b
cancel-tens a b m e = eq_of_mul-eq-mul_right (10 ^ m) (one-le-pow m 10 (zero-lt-suc 9)) a b e

raised : (c n k j m : ℕ) → k ≡ j + m → n * 10 ^ m ≡ c * 10 ^ k → n ≡ c * 10 ^ j
raised c n k j m q e =
    cancel-tens n (c * 10 ^ j) m
    (e ∙ ap (λ (x : ℕ). c * 10 ^ x) q ∙ ap (λ (x : ℕ). c * x) (pow-add 10 j m) ∙ sym (mul_assoc c (10 ^ j) (10 ^ m)))

-- a coefficient that ten does not divide has no power below zero
not-lowered : (c n k j m : ℕ) → m ≡ k + suc j → n * 10 ^ m ≡ c * 10 ^ k → (c % 10 ≡ 0 → ⊥) → ⊥
not-lowered c n k j m q e h =
    let s : c ≡ n * 10 ^ suc j =
    cancel-tens c (n * 10 ^ suc j) k
    (sym e ∙ ap (λ (x : ℕ). n * 10 ^ x) q ∙ ap (λ (x : ℕ). n * x) (pow-add 10 k (suc j) ∙ mul_comm (10 ^ k) (10 ^ suc j))
    ∙ sym (mul_assoc n (10 ^ suc j) (10 ^ k))) in
    let t : n * 10 ^ suc j ≡ n * 10 ^ j * 10 = ap (λ (x : ℕ). n * x) (pow-suc 10 j) ∙ sym (mul_assoc n (10 ^ j) 10) in
    h (ap (λ (x : ℕ). x % 10) (s ∙ t) ∙ mul-mod_left (n * 10 ^ j) 10)

below : (m j k : ℕ) (t : Bool) → ltb m (suc j) ≡ t → pos (0 + k) ≡ cond t (negsuc (suc j - suc m)) (pos (m - suc j)) → m ≡ k + suc j
below m j k true e q = let z : ◌≡◌ {A = ℕ} 0 1 = cc in absurd (omega arith)
below m j k false e q = let r : 0 + k ≡ m - suc j = ap nat_abs q in omega (arith, ltb-false m (suc j) e)

pub whole-double : WholeDouble
whole-double s n d c v h = by-normal v.normal d.power refl v.size.powers
  where
    by-power : (d.coefficient % 10 ≡ 0 → ⊥) → (p : ℤ) → d.power ≡ p → pos 0 +ℤ pos v.size.n ≡ p +ℤ pos v.size.m → Exactly d n
    by-power g (pos j) e q =
        let r : 0 + v.size.n ≡ j + v.size.m = ap nat_abs q in
        let k : v.size.n ≡ j + v.size.m = omega arith in
        let w : n ≡ d.coefficient * 10 ^ j = raised d.coefficient n v.size.n j v.size.m k v.size.numbers in
        let p : 0 < d.coefficient = omega (arith, not-zero g) in
        rw w (raised-exactly d j e p c (rw w at h))
    by-power g (negsuc j) e q =
        absurd (not-lowered d.coefficient n v.size.n j v.size.m (below v.size.m j v.size.n (ltb v.size.m (suc j)) refl q) v.size.numbers g)

    by-normal : Normal d → (p : ℤ) → d.power ≡ p → pos 0 +ℤ pos v.size.n ≡ p +ℤ pos v.size.m → Exactly d n
    by-normal (inl g) p e q = by-power g p e q
    by-normal (inr z) p e q =
        let w : n * 10 ^ v.size.m ≡ 0 * 10 ^ v.size.n = v.size.numbers ∙ ap (λ (x : Decimal). x.coefficient * 10 ^ v.size.n) z in
        let n0 : n ≡ 0 = cancel-tens n 0 v.size.m (w ∙ zero-mul (10 ^ v.size.n) ∙ sym (zero-mul (10 ^ v.size.m))) in
        rw n0 (zero-exactly d z)

-- ---- number fields

pub field-ten : FieldTen
field-ten l d h e = (read-bounds-eleven l d h e).0

-- so a whole number below 2 to the 53rd in a field is always a double
pub field-whole : FieldWhole
field-whole l s n d w e v h = whole-double s n d (field-ten l d w e) v h

pub field-simple : FieldSimple
unfolding simple_of
field-simple l d h e = rw (le-leb d.coefficient TEN-DIGITS (field-ten l d h e)) refl

pub zero_field : ZeroField
zero_field l d e z = by-normal ((reads-exactly l d).0 e).means.normal
  where
    by-normal : Normal d → simple_of d ≡ Double plus_zero
    by-normal (inl g) = absurd (not-zero g z)
    by-normal (inr q) = rw q zero-double

-- ---- what is outside

pub outside-exactly : OutsideExactly
unfolding simple_of
outside-exactly d e = by-test (is_simple d) refl
  where
    by-test : (t : Bool) → is_simple d ≡ t
        → (cond t (Double (signed_by d.negative (sized d.coefficient d.power))) (Outside d) ≡ Outside e)
        ↔ ((t ≡ false) × (d ≡ e))
    by-test true h =
        (λ q. let z : ◌≡◌ {A = ℕ} 0 1 = cc in absurd (omega arith), λ q. differ q.0)
    by-test false h = (λ q. (refl, cc), λ q. ap Outside q.1)
