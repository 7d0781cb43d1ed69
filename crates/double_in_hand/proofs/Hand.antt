-- A decimal in hand: which of the two it is, its double, and how none is told.
-- Assumes nothing.
use Prim.Native.Nat.{ℕ, suc, ◌*◌, ◌^◌, ◌<◌}
use mathlib.Core.Path.{◌≡◌, refl, sym, ap, ◌∙◌, subst}
use mathlib.Core.Bool.{Bool, true, false, cond, not, ◌&&◌}
use mathlib.Core.Logic.{◌↔◌, inl, inr}
use native.Mathlib.Nat.{zero-lt-suc, zero-mul, mul-pos, one-le-pow, eq-zero-or-pos}
use native.Mathlib.Omega.{arith}
use borrow.Author.Tests.{eqb-true, eqb-false, ne_eqb, leb-true, le-leb}
use lib.Dec.{T, eqb, leb, ltb→lt}
use lib.IntN.{ℤ, pos, negsuc}
use lib.Ieee.{Float, nan, inf, fin, binary64, up, down, round, neg, eq}
use lib.Ieee.Fits.{up_pos}
use lib.Ieee.Scale.{round_same}
use lib.Ieee.Positive.{positive}
use Rattle.laws.proofs.Booleans.{differ, and_left, and_right}
use Rattle.paper_number.specs.declared.types.Decimal.{Decimal}
use Rattle.paper_number.specs.Value.{decimal}
use Rattle.paper_double.specs.declared.types.Simple.{Simple}
use Rattle.paper_double.specs.declared.types.Simple.TheVariants.{Blank, Double, Outside}
use Rattle.paper_double.specs.Double.{in_range, TEN-DIGITS, is_simple, double_of, signed_by, simple_of, plus_zero, simple_said}
use Rattle.paper_double.specs.Claims.{over, under}
use Rattle.paper_double.proofs.Doubles.{rounded-once, signed_round, outside-exactly}
use Rattle.double_laws.proofs.OfValue.{in-range, out_of_range}
use Rattle.exports_simple.specs.Doubles.{double_in, decimal_simple}
use Rattle.double_in_hand.specs.Hand.{SimpleHand, HandAs, HandGiven, ZeroOnly, HandZero, HandNone, hand_in, HandBack}
use Rattle.double_laws.proofs.Finite.{sized-positive, simple-if}

-- ---- the sign: zero is never below zero

zero-sign : (b : Bool) (c : ℕ) → c ≡ 0 → (b && not (eqb c 0)) ≡ false
zero-sign true c e = rw e refl
zero-sign false c e = refl

pub own_sign : (b : Bool) (c : ℕ) → (c ≡ 0 → ⊥) → (b && not (eqb c 0)) ≡ b
own_sign true c h = rw (ne_eqb c 0 h) refl
own_sign false c h = refl

-- ---- any three numbers

abbrev OfHand : Decimal → Type 0
OfHand d = SimpleHand d.coefficient d.power

is-simple : (d : Decimal) → OfHand d → is_simple d ≡ true
is-simple d h = rw (le-leb d.coefficient TEN-DIGITS (omega (arith, h.0)), in-range d.power h.1) refl

not-simple : (d : Decimal) → (OfHand d → ⊥) → is_simple d ≡ false
not-simple d h = by_digits (leb d.coefficient TEN-DIGITS) refl
  where
    by_digits : (t : Bool) → leb d.coefficient TEN-DIGITS ≡ t → (t && in_range d.power) ≡ false
    by_digits true e = out_of_range d.power (λ q. h (leb-true d.coefficient TEN-DIGITS e, q))
    by_digits false e = refl

given : (d : Decimal) → HandAs d.negative d.coefficient d.power (simple_of d)
given d =
    record {
      simple = λ h. rounded-once d (is-simple d h);
      outside = λ h. (outside-exactly d d).1 (not-simple d h, refl);
    }

pub hand-given : HandGiven
hand-given negative coefficient power = (
  λ e. rw (zero-sign negative coefficient e) (given (decimal false coefficient power)),
  λ h. rw (own_sign negative coefficient h) (given (decimal negative coefficient power)),
)

-- ---- zero, and none

round-zero : round binary64 false 0 1 ≡ plus_zero
unfolding round
round-zero = refl

zero-rounded : (p : ℤ) → round binary64 false (over 0 p) (under p) ≡ plus_zero
zero-rounded (pos k) = ap (λ (a : ℕ). round binary64 false a 1) (zero-mul (10 ^ k)) ∙ round-zero
zero-rounded (negsuc k) =
    round_same binary64 false 0 (10 ^ suc k) 0 1 (one-le-pow (suc k) 10 (zero-lt-suc 9)) (zero-lt-suc 0)
    (sym (zero-mul (10 ^ suc k)))
    ∙ round-zero

-- a number above zero is not zero, whatever its sign
not_none : (m u d : ℕ) → 0 < m → 0 < u → m * u * 1 ≡ 0 * d → ⊥
not_none m u d h k e = let p : 0 < m * u = mul-pos h k in omega arith

unlike-zero : (s : Bool) (m : ℕ) (e : ℤ) → 0 < m → eq (fin s m e) plus_zero ≡ false
unfolding eq
unlike-zero s m e h = rw (ne_eqb (m * up e * 1) (0 * down e) (not_none m (up e) (down e) h (up_pos e))) refl

module _ (c : ℕ) (some : c ≡ 0 → ⊥) where
  digits-only : (s : Bool) (m : ℕ) (e : ℤ) → 0 < m → ZeroOnly c (fin s m e)
  digits-only s m e h =
      record { proper = λ z. absurd (omega arith); zero = λ z. absurd (some z); other = λ z. unlike-zero s m e h }

  signed-only : (s : Bool) (x : Float) → T (positive x) → ZeroOnly c (signed_by s x)
  unfolding neg
  signed-only s nan p = absurd p
  signed-only s (inf t) p = absurd p
  signed-only s (fin true m e) p = absurd p
  signed-only true (fin false m e) p = digits-only true m e (ltb→lt 0 m p)
  signed-only false (fin false m e) p = digits-only false m e (ltb→lt 0 m p)

same-given : {x y : Float} → Double x ≡ Double y → x ≡ y
same-given e = cc

module _ (s : Bool) (c : ℕ) (p : ℤ) (x : Float) (e : simple_of (decimal s c p) ≡ Double x) where
  simply : is_simple (decimal s c p) ≡ true
  simply = simple-if (decimal s c p) x e

  rounded : round binary64 s (over c p) (under p) ≡ x
  rounded = same-given (sym (rounded-once (decimal s c p) simply) ∙ e)

  zero-only : c ≡ 0 → s ≡ false → ZeroOnly c x
  zero-only z f =
      let w : round binary64 false (over 0 p) (under p) ≡ x = rw (f, z) at rounded in
      let q : x ≡ plus_zero = sym w ∙ zero-rounded p in
      rw q (record { proper = λ m. refl; zero = λ y. refl; other = λ h. absurd (h z) })

  other-only : (c ≡ 0 → ⊥) → ZeroOnly c x
  other-only h =
      let t = leb c TEN-DIGITS in
      let ten = leb-true c TEN-DIGITS (and_left t (in_range p) simply) in
      let some : 0 < c = elim (eq-zero-or-pos c) [ inl z ↦ absurd (h z) | inr q ↦ q ] in
      let above = sized-positive c p some ten (and_right t (in_range p) simply) in
      subst (ZeroOnly c) (signed_round s (over c p) (under p) ∙ rounded)
      (signed-only c h s (round binary64 false (over c p) (under p)) above)

pub hand-zero : HandZero
hand-zero negative c p x e = by_zero (eqb c 0) refl
  where
    by_zero : (t : Bool) → eqb c 0 ≡ t → ZeroOnly c x
    by_zero true q =
        let z = eqb-true c 0 q in
        zero-only (negative && not (eqb c 0)) c p x e z (zero-sign negative c z)
    by_zero false q = other-only (negative && not (eqb c 0)) c p x e (eqb-false c 0 q)

-- ---- none, and all of it

never-blank : (d : Decimal) → simple_of d ≡ Blank → ⊥
unfolding simple_of
never-blank d = by-test (is_simple d)
  where
    by-test : (t : Bool) → cond t (Double (double_of d)) (Outside d) ≡ Blank → ⊥
    by-test true e = let z : ◌≡◌ {A = ℕ} 0 1 = cc in absurd (omega arith)
    by-test false e = let z : ◌≡◌ {A = ℕ} 0 1 = cc in absurd (omega arith)

none-by : (x : Simple) → (x ≡ Blank → ⊥) → ((y : Float) → x ≡ Double y → eq y plus_zero ≡ false)
    → (eq (double_in x) plus_zero ≡ true) ↔ ((simple_said x).kind ≡ 2)
unfolding eq
none-by Blank b h = absurd (b refl)
none-by (Double y) b h = (λ e. differ (sym e ∙ h y refl), λ e. absurd (omega arith))
none-by (Outside d) b h = (λ e. refl, λ e. refl)

pub hand-none : HandNone
hand-none negative c p h =
    none-by (decimal_simple negative c p) (never-blank _) (λ y e. (hand-zero negative c p y e).other h)

pub hand-back : HandBack
unfolding simple_of
hand-back negative c p = by-test (is_simple d)
  where
    d : Decimal
    d = decimal (negative && not (eqb c 0)) c p

    by-test : (t : Bool)
        → let x = cond t (Double (double_of d)) (Outside d) in
        hand_in (simple_said x).kind (double_in x) negative c p ≡ x
    by-test true = refl
    by-test false = refl
