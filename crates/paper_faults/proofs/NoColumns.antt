-- Where a column is at fault there is not none. No column at fault: of one test, of two in a row, of a test on each of several places, of a rule that is made on some
-- records only; each in both directions.
-- Assumes nothing.
use Prim.Native.Nat.{ℕ, zero, suc, ◌+◌, ◌<◌, ◌≤◌}
use mathlib.Core.Path.{◌≡◌, refl, ap}
use mathlib.Core.Bool.{Bool, true, false, cond}
use mathlib.Core.List.{List, [], ◌∷◌, ◌++◌}
use native.Mathlib.Omega.{arith}
use lib.ListN.{length}
use Rattle.laws.proofs.Search.{either}
use Rattle.paper_faults.specs.Fault.{on, when, columns_from, columns_where}

pub some-column : {X : Type 0} (k : ℕ) (ks : List ℕ) → (k ∷ ks) ≡ [] → X
some-column k ks e = let z : suc (length ks) ≡ 0 = ap length e in absurd (omega arith)

-- one test
pub when-none : (b : Bool) (k : ℕ) → when b k ≡ [] → b ≡ false
when-none true k e = some-column k [] e
when-none false k e = refl

pub none-when : (b : Bool) (k : ℕ) → b ≡ false → when b k ≡ []
none-when b k e = rw e

-- columns before others
pub append-none : (js ks : List ℕ) → js ++ ks ≡ [] → (js ≡ []) × (ks ≡ [])
append-none [] ks e = (refl, e)
append-none (j ∷ js) ks e = some-column j (js ++ ks) e

pub whens-none : (a b : Bool) (j k : ℕ) → when a j ++ when b k ≡ [] → (a ≡ false) × (b ≡ false)
whens-none a b j k e =
    let (p, q) = append-none (when a j) (when b k) e in
    (when-none a j p, when-none b k q)

-- a test on each of n places
from-none : (test : ℕ → Bool) (column : ℕ → ℕ) (i n : ℕ) → columns_from test column i n ≡ []
    → (k : ℕ) → i ≤ k → k < i + n → test k ≡ false
unfolding columns_from
from-none test column i zero e k l h = absurd (omega arith)
from-none test column i (suc n) e k l h =
    by-test (test i) refl (columns_from test column (i + 1) n) e (from-none test column (i + 1) n)
  where
    at_place : test i ≡ false → ((j : ℕ) → i + 1 ≤ j → j < i + 1 + n → test j ≡ false) → test k ≡ false
    at_place q next =
        either i k (λ m. next k (omega arith) (omega arith)) (λ m. let z : k ≡ i = omega arith in rw z q)

    by-test : (b : Bool) → test i ≡ b → (ks : List ℕ) → cond b (column i ∷ ks) ks ≡ []
        → (ks ≡ [] → (j : ℕ) → i + 1 ≤ j → j < i + 1 + n → test j ≡ false) → test k ≡ false
    by-test true q ks z next = some-column (column i) ks z
    by-test false q ks z next = at_place q (next z)

pub where-none : (test : ℕ → Bool) (column : ℕ → ℕ) (n : ℕ) → columns_where test column n ≡ []
    → (k : ℕ) → k < n → test k ≡ false
where-none test column n e k h = from-none test column 0 n e k (omega arith) (omega arith)

none_from : (test : ℕ → Bool) (column : ℕ → ℕ) (i n : ℕ) → ((k : ℕ) → i ≤ k → k < i + n → test k ≡ false)
    → columns_from test column i n ≡ []
unfolding columns_from
none_from test column i zero h = refl
none_from test column i (suc n) h =
    rw (h i (omega arith) (omega arith)) (none_from test column (i + 1) n (λ k a b. h k (omega arith) (omega arith)))

pub none-where : (test : ℕ → Bool) (column : ℕ → ℕ) (n : ℕ) → ((k : ℕ) → k < n → test k ≡ false)
    → columns_where test column n ≡ []
none-where test column n h = none_from test column 0 n (λ k a b. h k (omega arith))

-- a rule that is made on some records only
pub on_none : (b : Bool) (ks : List ℕ) → on b ks ≡ [] → b ≡ true → ks ≡ []
on_none b ks e h = rw h at e

pub none-on : (b : Bool) (ks : List ℕ) → (b ≡ true → ks ≡ []) → on b ks ≡ []
none-on true ks h = h refl
none-on false ks h = refl
