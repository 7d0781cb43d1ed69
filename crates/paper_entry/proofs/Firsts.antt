-- The refusals of two lists, one behind the other: the second one waits for the first.
-- Assumes nothing.
use Prim.Native.Nat.{ℕ}
use mathlib.Core.Path.{◌≡◌, refl, sym}
use mathlib.Core.Bool.{Bool, true, false, cond, not, ◌&&◌}
use mathlib.Core.List.{List, [], ◌∷◌, ◌++◌}
use lib.Dec.{eqb}
use borrow.Author.Tests.{eqb-false}
use Rattle.laws.proofs.Booleans.{differ}
use Rattle.paper_entry.specs.Answer.{Refusal, first_of}

-- no refusal has the number 0
abbrev pub numbered : List Refusal → Bool
numbered [] = true
numbered (x ∷ xs) = not (eqb x.number 0) && numbered xs

pub first-given : (xs ys : List Refusal) → (first_of xs ≡ 0 → ⊥) → first_of (xs ++ ys) ≡ first_of xs
first-given [] ys h = absurd (h refl)
first-given (x ∷ xs) ys h = by-test x.given h (first-given xs ys)
  where
    by-test : (b : Bool) → (cond b x.number (first_of xs) ≡ 0 → ⊥)
        → ((first_of xs ≡ 0 → ⊥) → first_of (xs ++ ys) ≡ first_of xs)
        → cond b x.number (first_of (xs ++ ys)) ≡ cond b x.number (first_of xs)
    by-test true h rest = refl
    by-test false h rest = rest h

pub none-given : (xs ys : List Refusal) → numbered xs ≡ true → first_of xs ≡ 0 → first_of (xs ++ ys) ≡ first_of ys
none-given [] ys p e = refl
none-given (x ∷ xs) ys p e = by-test x.given (eqb x.number 0) refl p e (none-given xs ys)
  where
    by-test : (b z : Bool) → eqb x.number 0 ≡ z → (not z && numbered xs) ≡ true
        → cond b x.number (first_of xs) ≡ 0
        → (numbered xs ≡ true → first_of xs ≡ 0 → first_of (xs ++ ys) ≡ first_of ys)
        → cond b x.number (first_of (xs ++ ys)) ≡ first_of ys
    by-test b true q p e rest = differ (sym p)
    by-test true false q p e rest = absurd (eqb-false x.number 0 q e)
    by-test false false q p e rest = rest p e
