-- A machine that goes over a list of records, and the copy of that list: each record as it is copied in the context
-- before it. What a machine and a copy have to satisfy is `Faithful`; what then holds of whole lists is in proofs/.
use Rattle.std.specs.Prelude.{ℕ, ◌+◌, ◌≡◌, List, [], ◌∷◌, length}
use Rattle.laws.specs.Turns.{Turn, go, out}

-- what follows a turn that goes on; x behind one that does not
abbrev pub onward : {C R B : Type 0} → Turn C R → (C → B) → B → B
onward (go c) next x = next c
onward (out v) next x = x

-- each element as `copy` leaves it in the context before it
unfoldable pub copies : {A C R : Type 0} → (C → ℕ → A → Turn C R) → (C → A → A) → C → ℕ → List A → List A
copies turn copy c i [] = []
copies turn copy c i (r ∷ rs) = copy c r ∷ onward (turn c i r) (λ d. copies turn copy d (i + 1) rs) rs

-- what each element is in the context before it
unfoldable pub marks : {A C R M : Type 0} → (C → ℕ → A → Turn C R) → (C → A → M) → C → ℕ → List A → List M
marks turn mark c i [] = []
marks turn mark c i (r ∷ rs) = mark c r ∷ onward (turn c i r) (λ d. marks turn mark d (i + 1) rs) []

-- two lists alike, element by element, each by its mark
abbrev pub Alikes : {A M : Type 0} → (M → A → A → Type 0) → List M → List A → List A → Type 0
Alikes alike [] [] [] = Unit
Alikes alike [] [] (t ∷ ts) = ⊥
Alikes alike [] (r ∷ rs) ts = ⊥
Alikes alike (m ∷ ms) [] ts = ⊥
Alikes alike (m ∷ ms) (r ∷ rs) [] = ⊥
Alikes alike (m ∷ ms) (r ∷ rs) (t ∷ ts) = alike m r t × Alikes alike ms rs ts

-- it holds of every turn that goes on: from the context c, at i, with the element r, to the context d
abbrev pub Passing : {A C R : Type 0} → (C → ℕ → A → Turn C R) → (C → ℕ → A → C → Type 0) → Type 0
Passing {A = A} {C = C} turn P = (c : C) (i : ℕ) (r : A) (d : C) → turn c i r ≡ go d → P c i r d

-- and of every two turns from one context that both go on
abbrev pub Passing2 : {A C R : Type 0} → (C → ℕ → A → Turn C R) → (C → A → A → Type 0) → Type 0
Passing2 {A = A} {C = C} turn P =
    (c : C) (i : ℕ) (r t : A) (d e : C) → turn c i r ≡ go d → turn c i t ≡ go e → P c r t

-- the copy of a record goes on as the record does, is its own copy and as long; two records that stand in one context
-- have one copy exactly when they have one mark and are alike by it
pub record Faithful {C R M : Type 0} (turn : C → ℕ → List ℕ → Turn C R) (copy : C → List ℕ → List ℕ)
    (mark : C → List ℕ → M) (alike : M → List ℕ → List ℕ → Type 0) : Type 0 where
  pub keeps : Passing turn (λ c i r d. turn c i (copy c r) ≡ go d)
  pub once : Passing turn (λ c i r d. copy c (copy c r) ≡ copy c r)
  pub size : Passing turn (λ c i r d. length (copy c r) ≡ length r)
  pub one : Passing2 turn (λ c r t. mark c r ≡ mark c t → alike (mark c r) r t → copy c r ≡ copy c t)
  pub back : Passing2 turn (λ c r t. copy c r ≡ copy c t → (mark c r ≡ mark c t) × alike (mark c r) r t)
