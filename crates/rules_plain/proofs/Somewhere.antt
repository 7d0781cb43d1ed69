-- That one member of a list has a property: by its place, of lists joined, and by a test. Assumes nothing.
use Prim.Native.Nat.{ℕ, zero, suc, ◌+◌, ◌<◌, ◌≤◌}
use mathlib.Core.Path.{◌≡◌, refl, sym}
use mathlib.Core.Bool.{Bool, true, false, cond}
use mathlib.Core.List.{List, [], ◌∷◌, ◌++◌}
use mathlib.Core.Logic.{◌↔◌}
use native.Mathlib.Omega.{arith}
use lib.ListN.{length, get_or}
use Rattle.laws.specs.Members.{any_of}
use Rattle.laws.proofs.Booleans.{differ}
use Rattle.laws.proofs.Search.{either}
use Rattle.paper_faults.specs.Fault.{columns_from}
use Rattle.rules_plain.specs.Places.{Some, here, further}

-- ---- by its place

module _ {A : Type 0} (P : A → Type 0) (d : A) where
  pub at_some : (xs : List A) (m : ℕ) → m < length xs → P (get_or xs m d) → Some P xs
  at_some [] m l p = absurd (omega arith)
  at_some (x ∷ xs) zero l p = here p
  at_some (x ∷ xs) (suc m) l p = further (at_some xs m (omega arith) p)

  pub some_at : (xs : List A) → Some P xs → (m : ℕ) × (m < length xs) × P (get_or xs m d)
  some_at [] x' = elim x' [ ]
  some_at (x ∷ xs) (here p) = (0, omega arith, p)
  some_at (x ∷ xs) (further s) = let (m, l, p) = some_at xs s in (suc m, omega arith, p)

-- ---- of lists joined

module _ {A : Type 0} {P : A → Type 0} where
  pub some_left : (xs ys : List A) → Some P xs → Some P (xs ++ ys)
  some_left [] ys x' = elim x' [ ]
  some_left (x ∷ xs) ys (here p) = here p
  some_left (x ∷ xs) ys (further s) = further (some_left xs ys s)

  pub some_right : (xs ys : List A) → Some P ys → Some P (xs ++ ys)
  some_right [] ys s = s
  some_right (x ∷ xs) ys s = further (some_right xs ys s)

  -- where it is neither in the one nor in the other, it is not in both
  pub some-none : (xs ys : List A) → (Some P xs → ⊥) → (Some P ys → ⊥) → Some P (xs ++ ys) → ⊥
  some-none [] ys a b s = b s
  some-none (x ∷ xs) ys a b (here p) = a (here p)
  some-none (x ∷ xs) ys a b (further s) = some-none xs ys (λ t. a (further t)) b s

-- ---- by a test

module _ {A : Type 0} (test : A → Bool) (P : A → Type 0) (agree : (x : A) → (test x ≡ true) ↔ P x) where
  any_some : (xs : List A) → any_of test xs ≡ true → Some P xs
  unfolding any_of
  any_some [] e = differ (sym e)
  any_some (x ∷ xs) e = by-test (test x) refl e (any_some xs)
    where
      by-test : (b : Bool) → test x ≡ b → cond b true (any_of test xs) ≡ true → (any_of test xs ≡ true → Some P xs)
          → Some P (x ∷ xs)
      by-test true q h next = here ((agree x).0 q)
      by-test false q h next = further (next h)

  some-any : (xs : List A) → Some P xs → any_of test xs ≡ true
  unfolding any_of
  some-any [] x' = elim x' [ ]
  some-any (x ∷ xs) (here p) = rw ((agree x).1 p)
  some-any (x ∷ xs) (further s) = by-test (test x) (some-any xs s)
    where
      by-test : (b : Bool) → any_of test xs ≡ true → cond b true (any_of test xs) ≡ true
      by-test true h = refl
      by-test false h = h

  pub any-exactly : (xs : List A) → (any_of test xs ≡ true) ↔ Some P xs
  any-exactly xs = (any_some xs, some-any xs)

-- ---- the columns of a rule

-- a place that meets the test, and its column
pub record PlaceOf (test : ℕ → Bool) (column : ℕ → ℕ) (i n c : ℕ) : Type 0 where
  pub place : ℕ
  pub from : i ≤ place
  pub to : place < i + n
  pub met : test place ≡ true
  pub same : column place ≡ c

module _ (test : ℕ → Bool) (column : ℕ → ℕ) (c : ℕ) where
  abbrev Is : ℕ → Type 0
  Is k = k ≡ c

  pub columns-place : (i n : ℕ) → Some Is (columns_from test column i n) → PlaceOf test column i n c
  unfolding columns_from
  columns-place i zero s = elim s [ ]
  columns-place i (suc n) s = by-test (test i) refl s (columns-place (i + 1) n)
    where
      later : PlaceOf test column (i + 1) n c → PlaceOf test column i (suc n) c
      later p =
          let a = p.from in
          let b = p.to in
          record { place = p.place; from = omega arith; to = omega arith; met = p.met; same = p.same }

      by-test : (b : Bool) → test i ≡ b
          → Some Is (cond b (column i ∷ columns_from test column (i + 1) n) (columns_from test column (i + 1) n))
          → (Some Is (columns_from test column (i + 1) n) → PlaceOf test column (i + 1) n c)
          → PlaceOf test column i (suc n) c
      by-test true q (here p) next = record { place = i; from = omega arith; to = omega arith; met = q; same = p }
      by-test true q (further s) next = later (next s)
      by-test false q s next = later (next s)

  pub place-columns : (i n : ℕ) → PlaceOf test column i n c → Some Is (columns_from test column i n)
  unfolding columns_from
  place-columns i zero p =
      let a = p.from in
      let b = p.to in
      absurd (omega arith)
  place-columns i (suc n) p =
      either i p.place
      (λ l.
      let b = p.to in
      further-on (test i)
      (place-columns (i + 1) n
      (record { place = p.place; from = omega arith; to = omega arith; met = p.met; same = p.same })))
      (λ l.
      let a = p.from in
      let z : p.place ≡ i = omega arith in
      let q : test i ≡ true = rw (← z) p.met in
      let k : column i ≡ c = rw (← z) p.same in
      rw q (here k))
    where
      further-on : (b : Bool) → Some Is (columns_from test column (i + 1) n)
          → Some Is (cond b (column i ∷ columns_from test column (i + 1) n) (columns_from test column (i + 1) n))
      further-on true s = further s
      further-on false s = s
