-- Records or lines in order: nothing is found on one more; and there is one first at most.
-- Assumes nothing.
use Prim.Native.Nat.{ℕ, ◌+◌, ◌<◌, ◌≤◌}
use mathlib.Core.Path.{◌≡◌, refl, sym, subst}
use mathlib.Core.Bool.{Bool, true, false}
use mathlib.Core.List.{List}
use native.Mathlib.Omega.{arith}
use borrow.Author.Tests.{leb-true, leb-false}
use lib.Dec.{leb}
use Rattle.paper_faults.specs.Fault.{Finding}
use Rattle.paper_faults.specs.Least.{Nothing}
use Rattle.paper_faults.specs.First.{NoneBefore, Foremost}
use Rattle.paper_faults.proofs.FaultSaid.{some-found, one-least}

module _ (found : ℕ → List Finding) where
  pub nothing-next : (i : ℕ) → NoneBefore found i → Nothing (found i) → NoneBefore found (i + 1)
  nothing-next i h here j l = by-test (leb i j) refl
    where
      by-test : (b : Bool) → leb i j ≡ b → Nothing (found j)
      by-test true e =
          let m : i ≤ j = leb-true i j e in
          let z : i ≡ j = omega arith in
          subst (λ (x : ℕ). Nothing (found x)) z here
      by-test false e = let m : j < i = leb-false i j e in h j m

  module _ {many : ℕ} where
    -- where one is the first, something is found on it
    pub none_found : (i n k : ℕ) → Foremost found many i n k → (m : ℕ) → i < m → NoneBefore found m → ⊥
    none_found i n k a m l none = some-found (found i) n k a.least (none i l)

    one_place : (i n k j m l : ℕ) → Foremost found many i n k → Foremost found many j m l → i ≡ j
    one_place i n k j m l a b = by-test (leb i j) refl (leb j i) refl
      where
        by-test : (p : Bool) → leb i j ≡ p → (q : Bool) → leb j i ≡ q → i ≡ j
        by-test true e true f = let x = leb-true i j e in let y = leb-true j i f in omega arith
        by-test true e false f = absurd (none_found i n k a j (leb-false j i f) b.earlier)
        by-test false e q f = absurd (none_found j m l b i (leb-false i j e) a.earlier)

    one-fault : (i n k m l : ℕ) → Foremost found many i n k → Foremost found many i m l → (n ≡ m) × (k ≡ l)
    one-fault i n k m l a b = one-least (found i) n k m l a.least b.least

    -- one place, one number, one column
    pub one-first : (i n k j m l : ℕ) → Foremost found many i n k → Foremost found many j m l
        → (i ≡ j) × ((n ≡ m) × (k ≡ l))
    one-first i n k j m l a b =
        let e = one_place i n k j m l a b in
        (e, one-fault i n k m l a (subst (λ (x : ℕ). Foremost found many x m l) (sym e) b))
