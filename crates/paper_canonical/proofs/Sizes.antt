-- Numbers of one size: what the equation of a value says of naturals alone.
-- Assumes nothing.
use mathlib.Core.Path.{◌≡◌, sym, ap, ◌∙◌}
use mathlib.Core.Bool.{Bool, true, false}
use Prim.Native.Nat.{ℕ, zero, suc, ◌+◌, ◌*◌, ◌%◌, ◌^◌}
use native.Mathlib.Nat.{mul_assoc, mul_comm, mul-one}
use native.Mathlib.Omega.{arith}
use lib.IntN.{ℤ, pos, negsuc, ◌+ℤ◌, ◌-ℤ◌, +ℤ_assoc, +ℤ_comm, +ℤ_idl, +ℤ_idr, +ℤ_invl, +ℤ-neg_ℤ_cancel, -ℤ-+ℤ_cancel}
use Rattle.paper_number.specs.Value.{signed_by}
use Rattle.paper_number.proofs.Tens.{ten-suc}

pub slide : (a n : ℕ) → a * 10 ^ suc n ≡ 10 * (a * 10 ^ n)
slide a n = rw (ten-suc n, ← mul_assoc a 10 (10 ^ n), mul_comm a 10) (mul_assoc 10 a (10 ^ n))

-- where ten does not divide c, the other number has c's digits with zeros behind them
pub more-zeros : (m n a c : ℕ) → (c % 10 ≡ 0 → ⊥) → a * 10 ^ m ≡ c * 10 ^ n → (k : ℕ) × (n ≡ m + k) × (a ≡ c * 10 ^ k)
more-zeros zero n a c nz e = (n, omega arith, sym (mul-one a) ∙ e)
more-zeros (suc m) zero a c nz e =
    let s = slide a m in
    absurd (nz (let q : c ≡ 10 * (a * 10 ^ m) = omega arith in omega arith))
more-zeros (suc m) (suc n) a c nz e =
    let s = slide a m in
    let t = slide c n in
    let (k, p, q) = more-zeros m n a c nz (omega arith) in
    (k, omega arith, q)

-- ---- the power of a field with an exponent e, below zero by s, b places behind the point and k zeros to be dropped

abbrev pub up : Bool → ℕ → ℕ
up false e = e
up true e = 0

abbrev pub down : Bool → ℕ → ℕ
down false e = 0
down true e = e

four : (a b c d : ℤ) → (a +ℤ b) +ℤ (c +ℤ d) ≡ (a +ℤ c) +ℤ (b +ℤ d)
four a b c d =
    +ℤ_assoc a b (c +ℤ d)
    ∙ ap (λ (x : ℤ). a +ℤ x) (sym (+ℤ_assoc b c d) ∙ ap (λ (x : ℤ). x +ℤ d) (+ℤ_comm b c) ∙ +ℤ_assoc c b d)
    ∙ sym (+ℤ_assoc a c (b +ℤ d))

signed-sum : (s : Bool) (e : ℕ) → signed_by s e +ℤ pos (down s e) ≡ pos (up s e)
signed-sum false e = +ℤ_idr (pos e)
signed-sum true e = +ℤ_invl (pos e)

module _ (s : Bool) (e b k : ℕ) where
  total : ((signed_by s e -ℤ pos b) +ℤ pos k) +ℤ (pos b +ℤ pos (down s e)) ≡ pos (up s e) +ℤ pos k
  total =
      four (signed_by s e -ℤ pos b) (pos k) (pos b) (pos (down s e))
      ∙ ap (λ (x : ℤ). x +ℤ (pos k +ℤ pos (down s e))) (-ℤ-+ℤ_cancel (signed_by s e) (pos b))
      ∙ ap (λ (x : ℤ). signed_by s e +ℤ x) (+ℤ_comm (pos k) (pos (down s e)))
      ∙ sym (+ℤ_assoc (signed_by s e) (pos (down s e)) (pos k))
      ∙ ap (λ (x : ℤ). x +ℤ pos k) (signed-sum s e)

  -- the power p is told by naturals, and tells them
  pub balance-from : (p : ℤ) → (signed_by s e -ℤ pos b) +ℤ pos k ≡ p → p +ℤ pos (b + down s e) ≡ pos (up s e + k)
  balance-from p h = ap (λ (x : ℤ). x +ℤ pos (b + down s e)) (sym h) ∙ total

  pub balance-to : (p : ℤ) → p +ℤ pos (b + down s e) ≡ pos (up s e + k) → (signed_by s e -ℤ pos b) +ℤ pos k ≡ p
  balance-to p h =
      sym (+ℤ-neg_ℤ_cancel ((signed_by s e -ℤ pos b) +ℤ pos k) (pos (b + down s e)))
      ∙ ap (λ (x : ℤ). x -ℤ pos (b + down s e)) (total ∙ sym h)
      ∙ +ℤ-neg_ℤ_cancel p (pos (b + down s e))

inj : {a b : ℕ} → pos a ≡ pos b → a ≡ b
inj e = cc

neg_sum : (q b : ℕ) → (negsuc q +ℤ pos b) +ℤ pos (suc q) ≡ pos b
neg_sum q b =
    +ℤ_assoc (negsuc q) (pos b) (pos (suc q))
    ∙ ap (λ (x : ℤ). negsuc q +ℤ x) (+ℤ_comm (pos b) (pos (suc q)))
    ∙ sym (+ℤ_assoc (negsuc q) (pos (suc q)) (pos b))
    ∙ ap (λ (x : ℤ). x +ℤ pos b) (+ℤ_invl (pos (suc q)))
    ∙ +ℤ_idl (pos b)

-- a power of zero or more, and one below zero
module _ (s : Bool) (e b k p : ℕ) where
  pub pos-from : (signed_by s e -ℤ pos b) +ℤ pos k ≡ pos p → up s e + k ≡ b + down s e + p
  pos-from h = let q : p + (b + down s e) ≡ up s e + k = inj (balance-from s e b k (pos p) h) in omega arith

  pub pos-to : up s e + k ≡ b + down s e + p → (signed_by s e -ℤ pos b) +ℤ pos k ≡ pos p
  pos-to h = let q : p + (b + down s e) ≡ up s e + k = omega arith in balance-to s e b k (pos p) (ap pos q)

  pub neg-from : (signed_by s e -ℤ pos b) +ℤ pos k ≡ negsuc p → up s e + k + suc p ≡ b + down s e
  neg-from h =
      inj
      (ap (λ (x : ℤ). x +ℤ pos (suc p)) (sym (balance-from s e b k (negsuc p) h))
      ∙ neg_sum p (b + down s e))

  pub neg-to : up s e + k + suc p ≡ b + down s e → (signed_by s e -ℤ pos b) +ℤ pos k ≡ negsuc p
  neg-to h =
      balance-to s e b k (negsuc p)
      (sym (+ℤ-neg_ℤ_cancel (negsuc p +ℤ pos (b + down s e)) (pos (suc p)))
      ∙ ap (λ (x : ℤ). x -ℤ pos (suc p)) (neg_sum p (b + down s e) ∙ ap pos (sym h))
      ∙ +ℤ-neg_ℤ_cancel (pos (up s e + k)) (pos (suc p)))

-- the powers of two numbers of one size
pub drop-zeros : (p q : ℤ) (m n k : ℕ) → p +ℤ pos n ≡ q +ℤ pos m → n ≡ m + k → p +ℤ pos k ≡ q
drop-zeros p q m n k e h =
    sym (+ℤ-neg_ℤ_cancel (p +ℤ pos k) (pos m))
    ∙ ap (λ (x : ℤ). x -ℤ pos m)
    (+ℤ_assoc p (pos k) (pos m) ∙ ap (λ (x : ℕ). p +ℤ pos x) (let r : k + m ≡ n = omega arith in r) ∙ e)
    ∙ +ℤ-neg_ℤ_cancel q (pos m)
