-- A list told by its places, and whether one of its members meets a test.
use Rattle.std.specs.Prelude.{ℕ, zero, suc, ◌+◌, Bool, true, false, cond, List, [], ◌∷◌, ◌++◌}

-- what f gives at the n places from i, in order
unfoldable pub list_of : {A : Type 0} → (ℕ → A) → ℕ → ℕ → List A
list_of f i zero = []
list_of f i (suc n) = f i ∷ list_of f (i + 1) n

-- the lists that f gives at the n places from i, joined
unfoldable pub join_of : {A : Type 0} → (ℕ → List A) → ℕ → ℕ → List A
join_of f i zero = []
join_of f i (suc n) = f i ++ join_of f (i + 1) n

-- one of the list's members meets the test
unfoldable pub any_of : {A : Type 0} → (A → Bool) → List A → Bool
any_of test [] = false
any_of test (x ∷ xs) = cond (test x) true (any_of test xs)
