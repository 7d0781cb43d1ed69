-- How many digits a number has. That it is one more than the exponent of the largest power of ten that is not above the
-- number is the law `counts`.
use Rattle.std.specs.Prelude.{Bool, true, false, cond, ℕ, zero, suc, ◌/◌, eqb, ltb}

-- `short` says whether the number is below ten; a number has fewer digits than it is large
unfoldable pub count_from : ℕ → Bool → ℕ → ℕ
count_from zero short v = 1
count_from (suc n) true v = 1
count_from (suc n) false v = suc (count_from n (ltb (v / 10) 10) (v / 10))

-- how many digits it has: 0 has one
unfoldable pub count : ℕ → ℕ
count v = count_from v (ltb v 10) v

-- from its first that is not zero on: 0 has none
abbrev pub significant : ℕ → ℕ
significant v = cond (eqb v 0) 0 (count v)
