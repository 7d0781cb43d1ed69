-- Lists in which nothing occurs twice: by a test, as the judge looks, and as the definition says it.
-- Assumes nothing.
use mathlib.Core.Path.{◌≡◌, refl, sym, ◌∙◌}
use mathlib.Core.Bool.{Bool, true, false, cond}
use mathlib.Core.Logic.{◌↔◌}
use mathlib.Core.List.{List, [], ◌∷◌, ◌++◌}
use Rattle.laws.specs.Members.{any_of}
use Rattle.laws.specs.Walk.{All}
use Rattle.laws.proofs.Booleans.{differ}
use Rattle.good.specs.Marks.{Once}

-- no member is the same by the test as one before it, nor as one of `before`
unfoldable pub OnceBy : {A : Type 0} → (A → A → Bool) → List A → List A → Type 0
OnceBy same before [] = Unit
OnceBy same before (x ∷ xs) = (any_of (same x) before ≡ false) × OnceBy same (before ++ (x ∷ [])) xs

-- ---- the test and what it means

module _ {A : Type 0} (same : A → A → Bool) (Same : A → A → Type 0)
    (agree : (x y : A) → (same x y ≡ true) ↔ Same x y) where
  apart : (x y : A) (b : Bool) → same x y ≡ b → (Same x y → ⊥) → b ≡ false
  apart x y true q h = absurd (h ((agree x y).0 q))
  apart x y false q h = refl

  none-all : (x : A) (before : List A) → any_of (same x) before ≡ false → All (λ y. Same x y → ⊥) before
  unfolding any_of
  none-all x [] e = tt
  none-all x (y ∷ ys) e = by-test (same x y) refl e (λ h. none-all x ys h)
    where
      by-test : (b : Bool) → same x y ≡ b → cond b true (any_of (same x) ys) ≡ false
          → (any_of (same x) ys ≡ false → All (λ y. Same x y → ⊥) ys) → All (λ y. Same x y → ⊥) (y ∷ ys)
      by-test true q h rest = differ h
      by-test false q h rest = (λ s. differ (sym ((agree x y).1 s) ∙ q), rest h)

  all_none : (x : A) (before : List A) → All (λ y. Same x y → ⊥) before → any_of (same x) before ≡ false
  unfolding any_of
  all_none x [] h = refl
  all_none x (y ∷ ys) h = rw (apart x y (same x y) refl h.0) (all_none x ys h.1)

  pub once-said : (before xs : List A) → OnceBy same before xs → Once Same before xs
  unfolding OnceBy Once
  once-said before [] h = tt
  once-said before (x ∷ xs) h = (none-all x before h.0, once-said (before ++ (x ∷ [])) xs h.1)

  pub said-once : (before xs : List A) → Once Same before xs → OnceBy same before xs
  unfolding OnceBy Once
  said-once before [] h = tt
  said-once before (x ∷ xs) h = (all_none x before h.0, said-once (before ++ (x ∷ [])) xs h.1)
