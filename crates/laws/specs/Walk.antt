-- A machine that goes over a list: from a context, one turn at each element, until a turn hands out a result.
use Rattle.std.specs.Prelude.{ℕ, ◌+◌, ◌≡◌, List, [], ◌∷◌}
use Rattle.laws.specs.Turns.{Turn, go, after}

-- the result of all turns, the element with the index i first; `end` makes it where none gave one
unfoldable pub walk : {A C R : Type 0} → (C → ℕ → A → Turn C R) → (C → R) → C → ℕ → List A → R
walk turn end c i [] = end c
walk turn end c i (r ∷ rs) = after (turn c i r) (λ d. walk turn end d (i + 1) rs)

-- every turn goes on, and the last context is z
abbrev pub Goes : {A C R : Type 0} → (C → ℕ → A → Turn C R) → C → ℕ → List A → C → Type 0
Goes turn c i [] z = c ≡ z
Goes {C = C} turn c i (r ∷ rs) z = (d : C) × (turn c i r ≡ go d) × Goes turn d (i + 1) rs z

-- each element has the property
abbrev pub All : {A : Type 0} → (A → Type 0) → List A → Type 0
All P [] = Unit
All P (r ∷ rs) = P r × All P rs
