-- What the code has in place of the powers of ten, and a power counted from -22 on.
use Rattle.std.specs.Prelude.{ℕ, zero, suc, ◌+◌, ◌-◌, ◌^◌, ◌≡◌, cond, List, [], ◌∷◌, ℤ, pos, negsuc, leb, Float}
use Rattle.paper_double.specs.Double.{whole}

-- the powers of ten, from a power on
unfoldable pub tens_from : ℕ → ℕ → List Float
tens_from zero k = []
tens_from (suc n) k = whole (10 ^ k) ∷ tens_from n (suc k)

unfoldable pub tens : List Float
tens = tens_from 23 0

pub record TensLent (t : List Float) : Type 0 where
  pub same : t ≡ tens

-- 45 where it is outside
unfoldable pub rung : ℤ → ℕ
rung (pos k) = cond (leb k 22) (k + 22) 45
rung (negsuc k) = cond (leb (suc k) 22) (22 - suc k) 45
