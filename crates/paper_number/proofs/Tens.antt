-- Powers of ten.
-- Assumes nothing.
use mathlib.Core.Path.{◌≡◌, sym, ◌∙◌, ap}
use Prim.Native.Nat.{ℕ, zero, suc, ◌+◌, ◌*◌, ◌/◌, ◌^◌, ◌<◌, ◌≤◌}
use native.Mathlib.Nat.{add-zero, add-suc, one-le-pow, pow-suc, pow-le-pow_right, zero-lt-suc, mul-div_cancel}
use native.Mathlib.Nat.{not-le_of_lt}
use native.Mathlib.Decide.{dec_lt}
use native.Mathlib.Numerals.{add-one}
use native.Mathlib.Omega.{arith}

pub ten-suc : (n : ℕ) → 10 ^ suc n ≡ 10 * 10 ^ n
ten-suc n = rw pow-suc (omega arith)

pub ten-more : (n : ℕ) → 10 ^ (n + 1) ≡ 10 * 10 ^ n
ten-more n = rw add-one (ten-suc n)

pub ten-pos : (n : ℕ) → 0 < 10 ^ n
ten-pos n = one-le-pow n 10 (zero-lt-suc 9)

pub ten-le : {i j : ℕ} → i ≤ j → 10 ^ i ≤ 10 ^ j
ten-le h = pow-le-pow_right (zero-lt-suc 9) h

-- a power grows faster than its exponent
pub ten-gap : (x j : ℕ) → 10 ^ x + 9 * j ≤ 10 ^ (x + j)
ten-gap x zero = rw (add-zero x) (omega arith)
ten-gap x (suc j) = rw (add-suc, ten-suc (x + j)) (omega (arith, ten-gap x j, ten-pos (x + j)))

-- a factor is told by its product with a power of ten
pub ten-cancel : (a b n : ℕ) → a * 10 ^ n ≡ b * 10 ^ n → a ≡ b
ten-cancel a b n e =
    sym (mul-div_cancel a (ten-pos n)) ∙ ap (λ (x : ℕ). x / 10 ^ n) e ∙ mul-div_cancel b (ten-pos n)

-- of two powers the larger has the larger exponent
pub ten-lt : (a b : ℕ) → 10 ^ a < 10 ^ b → a < b
ten-lt a b h = by (dec_lt a b)
  where
    by : Dec (a < b) → a < b
    by (yes l) = l
    by (no l) = let g : b ≤ a = omega arith in absurd (not-le_of_lt h (ten-le g))
