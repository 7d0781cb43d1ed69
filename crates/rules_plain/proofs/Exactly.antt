-- A column that stands, and a test that passes, exactly where something is so.
-- Assumes nothing.
use Prim.Native.Nat.{ℕ}
use mathlib.Core.Path.{◌≡◌, refl, sym}
use mathlib.Core.Bool.{Bool, true, false, cond}
use mathlib.Core.List.{[], ◌∷◌}
use mathlib.Core.Logic.{◌↔◌, ◌⊎◌, inl, inr}
use Rattle.laws.proofs.Booleans.{differ}
use Rattle.laws.proofs.EitherWay.{either_way}
use Rattle.paper_faults.specs.Fault.{when}
use Rattle.paper_faults.proofs.NoColumns.{some-column}

pub when-exactly : {P : Type 0} (b : Bool) (k : ℕ) → (b ≡ true) ↔ P → (when b k ≡ k ∷ []) ↔ P
when-exactly true k h = (λ e. h.0 refl, λ p. refl)
when-exactly false k h = (λ e. some-column k [] (sym e), λ p. differ (sym (h.1 p)))

pub when-fine : {P : Type 0} (b : Bool) (k : ℕ) → (b ≡ true) ↔ P → (when b k ≡ []) ↔ (P → ⊥)
when-fine true k h = (λ e p. some-column k [] e, λ n. absurd (n (h.0 refl)))
when-fine false k h = (λ e p. differ (sym (h.1 p)), λ n. refl)

-- the test fails where it is not so
pub false-where : {P : Type 0} (b : Bool) → (b ≡ true) ↔ P → (P → ⊥) → b ≡ false
false-where true h n = absurd (n (h.0 refl))
false-where false h n = refl

-- one test, or else another
pub either-met : (a b : Bool) (P Q : Type 0) → (a ≡ true) ↔ P → (b ≡ true) ↔ Q → (cond a true b ≡ true) ↔ (P ⊎ Q)
either-met a b P Q p q = (by-test a p, by_side)
  where
    by-test : (x : Bool) → (x ≡ true) ↔ P → cond x true b ≡ true → P ⊎ Q
    by-test true h e = inl (h.0 refl)
    by-test false h e = inr (q.0 e)

    by_side : P ⊎ Q → cond a true b ≡ true
    by_side (inl x) = rw (p.1 x) refl
    by_side (inr x) = rw (q.1 x) (either_way (λ y. y ≡ true) a true true refl refl)
