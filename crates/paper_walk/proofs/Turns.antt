-- How many places stand before two places of a table, and which of the two comes first: numbers only.
-- Assumes nothing.
use Prim.Native.Nat.{ℕ, suc, ◌+◌, ◌-◌, ◌*◌, ◌<◌, ◌≤◌}
use mathlib.Core.Path.{◌≡◌, refl}
use mathlib.Core.Bool.{Bool, true, false}
use mathlib.Core.Logic.{◌↔◌, ◌⊎◌, inl, inr}
use native.Mathlib.Nat.{suc-mul, mul-le-mul_right}
use native.Mathlib.Omega.{arith}
use lib.Dec.{ltb}
use borrow.Author.Tests.{ltb-true, ltb-false}

-- a whole line lies between
line-between : (p q c : ℕ) → p < q → p * c + c ≤ q * c
line-between p q c h =
    let l : suc p ≤ q = omega arith in
    let m = mul-le-mul_right c l in
    rw (suc-mul p c) at m

-- lines l and m of c columns each, and in them the columns a and b
module _ (c l m a b : ℕ) (l1 : 1 ≤ l) (m1 : 1 ≤ m) (a1 : 1 ≤ a) (ac : a ≤ c) (b1 : 1 ≤ b) (bc : b ≤ c) where
  abbrev first : ℕ
  first = (l - 1) * c + (a - 1)

  abbrev second : ℕ
  second = (m - 1) * c + (b - 1)

  pub earlier : l < m → first < second
  earlier h = let k = line-between (l - 1) (m - 1) c (omega arith) in omega arith

  pub beside : l ≡ m → a < b → first < second
  beside e h = rw e (omega arith)

  pub turned : first < second → (l < m) ⊎ ((l ≡ m) × (a < b))
  turned h = by_tests (ltb l m) refl (ltb m l) refl
    where
      by_tests : (p : Bool) → ltb l m ≡ p → (q : Bool) → ltb m l ≡ q → (l < m) ⊎ ((l ≡ m) × (a < b))
      by_tests true p q u = inl (ltb-true l m p)
      by_tests false p true u =
          let d = ltb-true m l u in
          let k = line-between (m - 1) (l - 1) c (omega arith) in
          absurd (omega arith)
      by_tests false p false u =
          let x = ltb-false l m p in
          let y = ltb-false m l u in
          let e : l ≡ m = omega arith in
          let g : (m - 1) * c + (a - 1) < second = rw e at h in
          inr (e, omega arith)

-- places in their turns
pub turn-before : (k i j x y : ℕ) → k + i ≡ x → k + j ≡ y → (i < j) ↔ (x < y)
turn-before k i j x y e f = (λ h. omega arith, λ h. omega arith)
