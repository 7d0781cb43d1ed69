-- The value as the code works it out: the loop that drops last zeros, and the power.
-- Assumes nothing.
use mathlib.Core.Path.{◌≡◌, refl, sym, ap, ◌∙◌}
use mathlib.Core.Bool.{Bool}
use Prim.Native.Nat.{ℕ, ◌+◌, ◌*◌, ◌/◌, ◌%◌, ◌^◌, ◌<◌, ◌≤◌}
use native.Mathlib.Nat.{add_comm, mul-pos, mul_assoc, one-mul, mul-le-mul_right}
use native.Mathlib.Omega.{arith}
use borrow.Author.Tests.{ne_eqb}
use lib.IntN.{ℤ, pos, ◌+ℤ◌}
use Rattle.paper_number.specs.declared.types.Trim.{Trim}
use Rattle.paper_number.specs.Value.{decimal, trim, value_of}
use Rattle.paper_number.proofs.Tens.{ten-more, ten-pos, ten-lt}
use Rattle.paper_number.proofs.Equation.{not-zero, trim-bare, bare-one}

module _ (n v z : ℕ) (h : 0 < v) (e : n ≡ v * 10 ^ z) where
  -- what fits 64 bits has fewer than 20 zeros
  pub few-zeros : n < 2 ^ 64 → z < 20
  few-zeros l =
      let g : 1 * 10 ^ z ≤ v * 10 ^ z = mul-le-mul_right (10 ^ z) h in
      ten-lt z 20 (omega (arith, one-mul (10 ^ z)))

  pub one-zero : v % 10 ≡ 0 → n ≡ v / 10 * 10 ^ (z + 1)
  one-zero q =
      let g : v ≡ v / 10 * 10 = omega arith in
      e ∙ ap (λ (x : ℕ). x * 10 ^ z) g ∙ mul_assoc (v / 10) 10 (10 ^ z) ∙ ap (λ (x : ℕ). v / 10 * x) (sym (ten-more z))

  pub trimmed : (v % 10 ≡ 0 → ⊥) → record { number = v; zeros = z } ≡ trim n
  trimmed b =
      let g : 0 < n = rw e (mul-pos h (ten-pos z)) in
      let t = trim-bare n g in
      let (x, y) =
      bare-one {p = pos z} {q = pos t.k}
      (record { m = z; n = t.k; powers = ap pos (add_comm z t.k); numbers = sym e ∙ t.whole }) b t.bare in
      let k : z ≡ t.k = cc in
      let e : z ≡ (trim n).zeros = omega (arith, t.zeros) in
      rw (x, e) refl

-- a number that fits 64 bits has fewer than 20 last zeros
pub zeros-few : (n : ℕ) → 0 < n → n < 2 ^ 64 → (trim n).zeros < 20
zeros-few n h l =
    let t = trim-bare n h in
    let g : (trim n).number ≡ 0 → ⊥ = not-zero t.bare in
    let k = few-zeros n (trim n).number t.k (omega arith) t.whole l in
    omega (arith, t.zeros)

-- the value, with the power as the code makes it
pub made-value : (g : Bool) (n : ℕ) (p q : ℤ) (r : Trim) → r ≡ trim n → (n ≡ 0 → ⊥) → q ≡ p +ℤ pos r.zeros
    → decimal g r.number q ≡ value_of g n p
unfolding value_of
made-value g n p q r t h e = rw (ne_eqb n 0 h, e, t) refl
