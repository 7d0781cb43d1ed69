-- What is found, by its number: the rules stand by rising numbers, from 2 on, without 16, which is on no record; and a
-- refusal at a record is the first there. Assumes nothing.
use Prim.Native.Nat.{ℕ, ◌+◌, ◌-◌, ◌<◌, ◌≤◌}
use mathlib.Core.Path.{◌≡◌, refl, sym, ◌∙◌, ap, subst}
use mathlib.Core.Bool.{Bool, true, false, cond}
use mathlib.Core.List.{List, [], ◌∷◌}
use native.Mathlib.Omega.{arith}
use borrow.Author.Tests.{eqb-true, ltb-true, ltb-false}
use lib.Dec.{eqb, ltb}
use lib.ListN.{get_or}
use Rattle.paper_rules.specs.declared.types.Track.{Track}
use Rattle.paper_rules.specs.State.{Seen}
use Rattle.paper_faults.specs.Fault.{on, leftmost}
use Rattle.paper_rules.specs.Order.{findings}
use Rattle.paper_faults.specs.Least.{no_finding, Least}
use Rattle.rules_plain.specs.Places.{Some, here}
use Rattle.paper_entry.specs.declared.types.Verdict.{Verdict}
use Rattle.paper_entry.specs.Verdict.{refused}
use Rattle.entry_walk.specs.First.{First, FirstAt, by_length, by_record, by_end, by_none}
use Rattle.refusal_table.proofs.Columns.{computed}

-- the number of the rule with the place i of all that the rules find, and the place of a number
abbrev pub number_of : ℕ → ℕ
number_of i = cond (ltb i 14) (i + 2) (i + 3)

abbrev pub place_of : ℕ → ℕ
place_of n = cond (ltb n 16) (n - 2) (n - 3)

pub number-rises : (a b : ℕ) → a < b → number_of a < number_of b
number-rises a b l = by_tests (ltb a 14) refl (ltb b 14) refl
  where
    by_tests : (x : Bool) → ltb a 14 ≡ x → (y : Bool) → ltb b 14 ≡ y
        → cond x (a + 2) (a + 3) < cond y (b + 2) (b + 3)
    by_tests true p true q = omega arith
    by_tests true p false q = omega arith
    by_tests false p true q =
        let h = ltb-false a 14 p in
        let k = ltb-true b 14 q in
        absurd (omega arith)
    by_tests false p false q = omega arith

leftmost-some : (ks : List ℕ) (k : ℕ) → leftmost ks ≡ k → 1 ≤ k → Some (λ c. c ≡ k) ks
leftmost-some [] k e l = absurd (omega arith)
leftmost-some (j ∷ ks) k e l = here e

pub on_some : (P : ℕ → Type 0) (b : Bool) (ks : List ℕ) → Some P (on b ks) → (b ≡ true) × Some P ks
on_some P false ks s = elim s [ ]
on_some P true ks s = (refl, s)

module _ (t : Track) (s : Seen) (role : ℕ) (fs : List (List ℕ)) (r : List ℕ) where
  pub number_at : (i : ℕ) → i < 15 → (get_or (findings t s role fs r) i no_finding).number ≡ number_of i
  number_at i l =
      eqb-true _ (number_of i)
      (computed (λ j. eqb (get_or (findings t s role fs r) j no_finding).number (number_of j)) 15 tt refl i l)

  place_at : (i : ℕ) → i < 15 → place_of (get_or (findings t s role fs r) i no_finding).number ≡ i
  place_at i l =
      eqb-true _ i
      (computed (λ j. eqb (place_of (get_or (findings t s role fs r) j no_finding).number) j) 15 tt refl i l)

  -- the least of what is found is one of the columns of its rule
  pub least-found : (n k : ℕ) → Least (findings t s role fs r) n k
      → Some (λ c. c ≡ k) (get_or (findings t s role fs r) (place_of n) no_finding).columns
  least-found n k l =
      let z : l.at ≡ place_of n = sym (place_at l.at l.there) ∙ ap place_of l.number in
      subst (λ (i : ℕ). Some (λ c. c ≡ k) (get_or (findings t s role fs r) i no_finding).columns) z
      (leftmost-some (get_or (findings t s role fs r) l.at no_finding).columns k l.column l.some)

-- the refusal at a record is the first there
pub first-at : (s : List ℕ) (v : Verdict) → First s v → (n i k : ℕ) → 1 < n → (n ≡ 16 → ⊥)
    → v ≡ refused n (record { 0 = i + 1 }) k → FirstAt s i n k
first-at s v (by_length e) n i k a b q = let z : 1 ≡ n = ap (λ (x : Verdict). x.refusal) q in absurd (omega arith)
first-at s v (by_record j m l f) n i k a b q =
    let x : m ≡ n = ap (λ (w : Verdict). w.refusal) q in
    let y : j + 1 ≡ i + 1 = ap (λ (w : Verdict). w.«record».0) q in
    let z : l ≡ k = ap (λ (w : Verdict). w.column) q in
    let o : j ≡ i = omega arith in
    subst (λ (d : ℕ). FirstAt s i n d) z
    (subst (λ (d : ℕ). FirstAt s i d l) x (subst (λ (d : ℕ). FirstAt s d m l) o f))
first-at s v (by_end c e) n i k a b q = absurd (b (sym (ap (λ (x : Verdict). x.refusal) q)))
first-at s v (by_none c e) n i k a b q = let z : 0 ≡ n = ap (λ (x : Verdict). x.refusal) q in absurd (omega arith)
