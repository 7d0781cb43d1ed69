-- What is claimed of a decimal in hand as a double, by which `x4_as_double` and `x4_as_double_kind` answer: a host program has
-- any three numbers (negative, coefficient, power). Each type is that of a law in proofs/Hand, under the law's name.
use Rattle.std.specs.Prelude.{ℕ, ◌≤◌, ◌≡◌, Bool, true, false, cond, not, ◌&&◌, ◌↔◌, ℤ, eqb, Float}
use Rattle.std.specs.Float.{binary64}
use Rattle.std.specs.Float.Ieee.{round, eq}
use Rattle.paper_number.specs.Value.{decimal}
use Rattle.paper_double.specs.declared.types.Simple.{Simple}
use Rattle.paper_double.specs.declared.types.Simple.TheVariants.{Double, Outside}
use Rattle.paper_double.specs.Claims.{over, under}
use Rattle.paper_double.specs.Double.{plus_zero, simple_said}
use Rattle.double_laws.specs.OfValue.{SimplePower}
use Rattle.double_laws.specs.Finite.{Proper}
use Rattle.exports_simple.specs.Doubles.{double_in, decimal_simple}

-- ---- any three numbers

-- ten digits at most, and "the power lies in -22 to 22": the power in hand, which is the value's where the coefficient does
-- not end in 0, so that 1 with -22 is a double and 10 with -23 is none
abbrev pub SimpleHand : ℕ → ℤ → Type 0
SimpleHand coefficient power = (coefficient ≤ 9999999999) × SimplePower power

-- exactly then a double, rounded once to the nearest, of two to the even one; else the decimal as it is
pub record HandAs (negative : Bool) (coefficient : ℕ) (power : ℤ) (x : Simple) : Type 0 where
  pub simple : SimpleHand coefficient power → x ≡ Double (round binary64 negative (over coefficient power) (under power))
  pub outside : (SimpleHand coefficient power → ⊥) → x ≡ Outside (decimal negative coefficient power)

-- "Zero is (no, 0, 0), however signed": it is never below zero, and any other number has its sign
abbrev pub HandGiven : Type 0
HandGiven =
    (negative : Bool) (coefficient : ℕ) (power : ℤ)
    → let x = decimal_simple negative coefficient power in
    (coefficient ≡ 0 → HandAs false coefficient power x) × ((coefficient ≡ 0 → ⊥) → HandAs negative coefficient power x)

-- ---- zero, and none

-- a double that is given is a number, +0.0 where the coefficient is 0, and no other is equal to 0.0
pub record ZeroOnly (coefficient : ℕ) (x : Float) : Type 0 where
  pub proper : Proper x
  pub zero : coefficient ≡ 0 → x ≡ plus_zero
  pub other : (coefficient ≡ 0 → ⊥) → eq x plus_zero ≡ false

abbrev pub HandZero : Type 0
HandZero =
    (negative : Bool) (coefficient : ℕ) (power : ℤ) (x : Float) → decimal_simple negative coefficient power ≡ Double x
    → ZeroOnly coefficient x

-- so where the coefficient is not 0 the double by value is equal to 0.0 exactly where there is none
abbrev pub HandNone : Type 0
HandNone =
    (negative : Bool) (coefficient : ℕ) (power : ℤ) → (coefficient ≡ 0 → ⊥)
    → let x = decimal_simple negative coefficient power in
    (eq (double_in x) plus_zero ≡ true) ↔ ((simple_said x).kind ≡ 2)

-- ---- nothing is lost: the kind and the double by value say all of it, beside the three numbers

-- what a host makes of them: the double where the kind is 1, else the decimal in hand, zero without a sign
abbrev pub hand_in : ℕ → Float → Bool → ℕ → ℤ → Simple
hand_in kind x negative coefficient power =
    cond (eqb kind 1) (Double x) (Outside (decimal (negative && not (eqb coefficient 0)) coefficient power))

abbrev pub HandBack : Type 0
HandBack =
    (negative : Bool) (coefficient : ℕ) (power : ℤ)
    → let x = decimal_simple negative coefficient power in
    hand_in (simple_said x).kind (double_in x) negative coefficient power ≡ x
