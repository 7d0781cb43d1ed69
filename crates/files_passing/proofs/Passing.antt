-- The way over the entries of a file keeps to the definition.
-- Assumes nothing.
use Prim.Native.Nat.{ℕ, ◌+◌, ◌-◌, ◌≤◌, ◌<◌}
use mathlib.Core.Path.{◌≡◌, sym, ◌∙◌, ap, subst}
use mathlib.Core.List.{List}
use native.Mathlib.Omega.{arith}
use lib.ListN.{length}
use Rattle.paper_files.specs.Parts.{entry_length, entry_first}
use Rattle.paper_files.proofs.PlainParts.{first-begun}
use Rattle.paper_reasons.specs.File.{passed}
use Rattle.paper_reasons.proofs.Passed.{so, none_passed, one-passed, still}

-- so many are passed, and the way stands at the byte `at`
pub record Passing (s : List ℕ) (most entries at : ℕ) : Type 0 where
  pub few : entries ≤ most
  pub here : passed s entries ≡ so entries at
  pub inside : at ≤ 81 + length s

module _ (s : List ℕ) where
  pub passing-start : (most : ℕ) → Passing s most 0 81
  passing-start most = record { few = omega arith; here = none_passed s; inside = omega arith }

  module _ {most entries at : ℕ} (k : Passing s most entries at) where
    pub passing-stopped : entry_length s at ≡ 0 → so entries at ≡ passed s most
    passing-stopped h =
        let few = k.few in
        let z : most - entries + entries ≡ most = omega arith in
        sym (subst (λ (n : ℕ). passed s n ≡ so entries at) z (still s entries (most - entries) _ k.here h))

    pub passing-more : (n : ℕ) → n ≡ entry_length s at → (n ≡ 0 → ⊥) → n + entry_first s at ≤ length s → entries < most
        → Passing s most (entries + 1) (at + n)
    passing-more n e some l m =
        let begun : entry_length s at ≡ 0 → ⊥ = λ z. some (e ∙ z) in
        let first = first-begun s at begun in
        record {
          few = omega arith;
          here = one-passed s entries at k.here begun ∙ ap (λ (x : ℕ). so (entries + 1) (at + x)) (sym e);
          inside = omega arith;
        }

    pub passing-done : (entries < most → ⊥) → so entries at ≡ passed s most
    passing-done h =
        let few = k.few in
        let z : entries ≡ most = omega arith in
        subst (λ (x : ℕ). so entries at ≡ passed s x) z (sym k.here)
