-- Among the records before an index there is a last one of a kind, or there is none.
-- Assumes nothing.
use Prim.Native.Nat.{ℕ, zero, suc, ◌<◌}
use mathlib.Core.Path.{◌≡◌, refl}
use mathlib.Core.Bool.{Bool, true, false}
use mathlib.Core.List.{List}
use mathlib.Core.Logic.{◌⊎◌, inl, inr}
use native.Mathlib.Omega.{arith}
use Rattle.laws.proofs.Search.{either}
use Rattle.paper_entry.specs.Contexts.{role_at}
use Rattle.counted_before.specs.Before.{LastOf}

abbrev pub NoneOf : (ℕ → Bool) → List ℕ → ℕ → Type 0
NoneOf kind s i = (m : ℕ) → m < i → kind (role_at s m) ≡ false

module _ (kind : ℕ → Bool) (s : List ℕ) where
  none_more : (i : ℕ) → kind (role_at s i) ≡ false → NoneOf kind s i → NoneOf kind s (suc i)
  none_more i e h m l =
      either m i (λ b. h m b) (λ b. let z : m ≡ i = omega arith in rw z e)

  last_more : (i : ℕ) → kind (role_at s i) ≡ false → LastOf kind s i → LastOf kind s (suc i)
  last_more i e x =
      let b = x.is.before in
      record {
        index = x.index;
        is = record {
          before = omega arith;
          is = x.is.is;
          last = λ m a c. either m i (λ d. x.is.last m a d) (λ d. let z : m ≡ i = omega arith in rw z e);
        };
      }

  last-here : (i : ℕ) → kind (role_at s i) ≡ true → LastOf kind s (suc i)
  last-here i e =
      record {
        index = i;
        is = record { before = omega arith; is = e; last = λ m a c. absurd (omega arith) };
      }

  one-or-none : (i : ℕ) → LastOf kind s i ⊎ NoneOf kind s i
  one-or-none zero = inr (λ m l. absurd (omega arith))
  one-or-none (suc i) = by-test (kind (role_at s i)) refl (one-or-none i)
    where
      by-test : (b : Bool) → kind (role_at s i) ≡ b → LastOf kind s i ⊎ NoneOf kind s i
          → LastOf kind s (suc i) ⊎ NoneOf kind s (suc i)
      by-test true e x = inl (last-here i e)
      by-test false e (inl x) = inl (last_more i e x)
      by-test false e (inr h) = inr (none_more i e h)

  pub one_of : (i : ℕ) → (NoneOf kind s i → ⊥) → LastOf kind s i
  one_of i h = by-case (one-or-none i)
    where
      by-case : LastOf kind s i ⊎ NoneOf kind s i → LastOf kind s i
      by-case (inl x) = x
      by-case (inr n) = absurd (h n)
