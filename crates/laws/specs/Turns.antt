-- A run of turns: from a state, one turn at each of n places, until a turn hands out a result.
use Rattle.std.specs.Prelude.{ℕ, zero, suc, ◌+◌}

-- what a turn gives: the next state, or the result
pub data Turn (S R : Type 0) : Type 0 where
  go : S → Turn S R
  out : R → Turn S R

abbrev pub after : {S R : Type 0} → Turn S R → (S → R) → R
after (go s) next = next s
after (out r) next = r

-- the turns at i, i + 1, .., n of them; `end` makes the result where none gave one
unfoldable pub run : {S R : Type 0} → (S → ℕ → Turn S R) → (S → R) → S → ℕ → ℕ → R
run turn end s i zero = end s
run turn end s i (suc n) = after (turn s i) (λ t. run turn end t (i + 1) n)
