-- The first place of a run at which a test holds.
use Rattle.std.specs.Prelude.{ℕ, zero, suc, ◌+◌, Bool, cond}

-- the first of the n places from i at which the test holds, or i + n
unfoldable pub first : (ℕ → Bool) → ℕ → ℕ → ℕ
first test i zero = i
first test i (suc n) = cond (test i) i (first test (i + 1) n)

-- at how many of the n places from i the test holds
unfoldable pub how_many : (ℕ → Bool) → ℕ → ℕ → ℕ
how_many test i zero = 0
how_many test i (suc n) = how_many test i n + cond (test (i + n)) 1 0
