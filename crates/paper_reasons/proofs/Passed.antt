-- Entries of a file passed one by one.
-- Assumes nothing.
use Prim.Native.Nat.{ℕ, zero, suc, ◌+◌}
use mathlib.Core.Path.{◌≡◌, refl, subst}
use mathlib.Core.List.{List}
use native.Mathlib.Omega.{arith}
use borrow.Author.Tests.{eq-eqb, ne_eqb}
use Rattle.paper_files.specs.Parts.{entry_length}
use Rattle.paper_reasons.specs.declared.types.Passed.{Passed}
use Rattle.paper_reasons.specs.File.{passed}

abbrev pub so : ℕ → ℕ → Passed
so entries at = record { entries = entries; at = at }

module _ (s : List ℕ) where
  pub none_passed : passed s 0 ≡ so 0 81
  unfolding passed
  none_passed = refl

  -- one more, where one begins
  one_more : (n at : ℕ) → passed s n ≡ so n at → (entry_length s at ≡ 0 → ⊥)
      → passed s (suc n) ≡ so (n + 1) (at + entry_length s at)
  unfolding passed
  one_more n at e h = rw (e, ne_eqb (entry_length s at) 0 h) refl

  pub one-passed : (n at : ℕ) → passed s n ≡ so n at → (entry_length s at ≡ 0 → ⊥)
      → passed s (n + 1) ≡ so (n + 1) (at + entry_length s at)
  one-passed n at e h =
      let z : suc n ≡ n + 1 = omega arith in
      subst (λ (x : ℕ). passed s x ≡ so (n + 1) (at + entry_length s at)) z (one_more n at e h)

  -- no further, where none begins
  still_one : (n : ℕ) (p : Passed) → passed s n ≡ p → entry_length s p.at ≡ 0 → passed s (suc n) ≡ p
  unfolding passed
  still_one n p e h = rw (e, eq-eqb (entry_length s p.at) 0 h) refl

  pub still : (n m : ℕ) (p : Passed) → passed s n ≡ p → entry_length s p.at ≡ 0 → passed s (m + n) ≡ p
  still n zero p e h = let z : n ≡ 0 + n = omega arith in subst (λ (x : ℕ). passed s x ≡ p) z e
  still n (suc m) p e h =
      let z : suc (m + n) ≡ suc m + n = omega arith in
      subst (λ (x : ℕ). passed s x ≡ p) z (still_one (m + n) p (still n m p e h) h)
