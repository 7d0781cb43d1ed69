-- The value of digits with places behind the point, against that of a whole number.
-- Assumes nothing.
use mathlib.Core.Path.{◌≡◌, refl, sym, ◌∙◌}
use mathlib.Core.Bool.{Bool, true, false, not, ◌&&◌}
use Prim.Native.Nat.{ℕ, ◌*◌, ◌^◌}
use native.Mathlib.Nat.{mul-one, pow-zero, zero-mul}
use borrow.Author.Tests.{eqb-true, eqb-false, not-false}
use lib.Dec.{eqb}
use lib.IntN.{ℤ, pos, ◌-ℤ◌, -ℤ-+ℤ_cancel, +ℤ_idr, +ℤ_comm}
use Rattle.paper_number.specs.Value.{SameSize, Value, value_of}
use Rattle.paper_number.proofs.Equation.{same-sym, same-trans}
use Rattle.paper_number.proofs.Sums.{plus-cancel}
use Rattle.paper_number.proofs.Tens.{ten-cancel}
use Rattle.paper_number.proofs.Laws.{value_found, value-one}
use Rattle.paper_number.specs.Whole.{below_zero}

-- so many zeros behind the point
shift : (n p : ℕ) → SameSize (n * 10 ^ p) (pos 0 -ℤ pos p) n (pos 0)
shift n p =
    record {
      m = 0;
      n = p;
      powers = -ℤ-+ℤ_cancel (pos 0) (pos p) ∙ sym (+ℤ_idr (pos 0));
      numbers = rw (pow-zero, mul-one);
    }

-- and no other digits are as large
shift_one : (a n p : ℕ) → SameSize a (pos 0 -ℤ pos p) n (pos 0) → a ≡ n * 10 ^ p
shift_one a n p s = same_number (same-trans s (same-sym (shift n p)))
  where
    -- of one power
    same_number : SameSize a (pos 0 -ℤ pos p) (n * 10 ^ p) (pos 0 -ℤ pos p) → a ≡ n * 10 ^ p
    same_number t =
        let e : pos t.n ≡ pos t.m =
        plus-cancel (pos t.n) (pos t.m) (pos 0 -ℤ pos p)
        (+ℤ_comm (pos t.n) (pos 0 -ℤ pos p) ∙ t.powers ∙ +ℤ_comm (pos 0 -ℤ pos p) (pos t.m)) in
        let q : t.n ≡ t.m = cc in
        ten-cancel a (n * 10 ^ p) t.m (t.numbers ∙ rw q refl)

-- zero, however signed
zero-both : (q : ℤ) → value_of true 0 q ≡ value_of false 0 (pos 0)
unfolding value_of
zero-both q = refl

-- what is not below zero is zero where a minus is written
not-below : (a : ℕ) → below_zero true a ≡ false → a ≡ 0
not-below a e = eqb-true a 0 (not-false (eqb a 0) e)

value-shift : (n p : ℕ) → value_of false (n * 10 ^ p) (pos 0 -ℤ pos p) ≡ value_of false n (pos 0)
value-shift n p =
    let x = value_found false n (pos 0) in
    value-one false (n * 10 ^ p) (pos 0 -ℤ pos p) _ _ (value_found false (n * 10 ^ p) (pos 0 -ℤ pos p))
    (record { size = same-trans (shift n p) x.size; sign = x.sign; normal = x.normal })

-- the digits of a whole number with zeros behind the point have its value
pub value-whole : (g : Bool) (a n p : ℕ) → below_zero g a ≡ false → a ≡ n * 10 ^ p
    → value_of g a (pos 0 -ℤ pos p) ≡ value_of false n (pos 0)
value-whole false a n p h e = rw e (value-shift n p)
value-whole true a n p h e =
    let z : a ≡ 0 = not-below a h in
    let y : n ≡ 0 = ten-cancel n 0 p (sym e ∙ z ∙ sym (zero-mul (10 ^ p))) in
    rw (z, y) (zero-both (pos 0 -ℤ pos p))

zero-size : (a b m n : ℕ) → a * 10 ^ m ≡ b * 10 ^ n → b ≡ 0 → a ≡ 0
zero-size a b m n e z = ten-cancel a 0 m (e ∙ rw z (zero-mul (10 ^ n) ∙ sym (zero-mul (10 ^ m))))

-- and of that value are only these digits, with no minus unless they are zero
module _ (g : Bool) (a n p : ℕ) (e : value_of g a (pos 0 -ℤ pos p) ≡ value_of false n (pos 0)) where
  written : Value g a (pos 0 -ℤ pos p) (value_of false n (pos 0))
  written = rw e at (value_found g a (pos 0 -ℤ pos p))

  meant : Value false n (pos 0) (value_of false n (pos 0))
  meant = value_found false n (pos 0)

  pub whole-value : a ≡ n * 10 ^ p
  whole-value = shift_one a n p (same-trans written.size (same-sym meant.size))

  pub not-minus : below_zero g a ≡ false
  not-minus = by g (eqb a 0) refl refl
    where
      by : (h z : Bool) → g ≡ h → eqb a 0 ≡ z → (h && not z) ≡ false
      by false z q r = refl
      by true true q r = refl
      by true false q r =
          let s = written.size in
          let c : (value_of false n (pos 0)).coefficient ≡ 0 → ⊥ =
          λ y. eqb-false a 0 r (zero-size a (value_of false n (pos 0)).coefficient s.m s.n s.numbers y) in
          sym q ∙ sym (written.sign c) ∙ meant.sign c
