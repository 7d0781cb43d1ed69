-- What holds of each column at fault: of one test, of several in a row, of a test on each of several places, of a rule
-- that is made on some records only. And what is computed for each of a few numbers.
-- Assumes nothing.
use Prim.Native.Nat.{ℕ, zero, suc, ◌+◌, ◌<◌, ◌≤◌}
use mathlib.Core.Path.{◌≡◌, refl, sym, subst}
use mathlib.Core.Bool.{Bool, true, false, not, ◌||◌}
use mathlib.Core.List.{List, [], ◌∷◌, ◌++◌}
use native.Mathlib.Omega.{arith}
use lib.Dec.{T}
use lib.ListN.{length, replicate}
use Rattle.laws.specs.Table.{every}
use Rattle.laws.proofs.Table.{at}
use Rattle.paper_record.proofs.NumberFields.{true_of}
use Rattle.paper_faults.specs.Fault.{on, when, columns_from, columns_where, leftmost}
use Rattle.laws.proofs.EitherWay.{either_way, no}

-- ---- each column

pub data Each (P : ℕ → Type 0) : List ℕ → Type 0 where
  no_more : Each P []
  one : {k : ℕ} {ks : List ℕ} → P k → Each P ks → Each P (k ∷ ks)

module _ (P : ℕ → Type 0) where
  pub each-when : (b : Bool) (k : ℕ) → (b ≡ true → P k) → Each P (when b k)
  each-when true k p = one (p refl) no_more
  each-when false k p = no_more

  pub each_on : (b : Bool) (ks : List ℕ) → (b ≡ true → Each P ks) → Each P (on b ks)
  each_on true ks p = p refl
  each_on false ks p = no_more

  pub each_append : (js ks : List ℕ) → Each P js → Each P ks → Each P (js ++ ks)
  each_append [] ks p q = q
  each_append (j ∷ js) ks (one p r) q = one p (each_append js ks r q)

  each_from : (test : ℕ → Bool) (column : ℕ → ℕ) (i n : ℕ) → ((j : ℕ) → j < i + n → P (column j))
      → Each P (columns_from test column i n)
  unfolding columns_from
  each_from test column i zero p = no_more
  each_from test column i (suc n) p =
      let rest = each_from test column (i + 1) n (λ j l. p j (omega arith)) in
      either_way (Each P) (test i) (column i ∷ columns_from test column (i + 1) n)
      (columns_from test column (i + 1) n) (one (p i (omega arith)) rest) rest

  pub each-where : (test : ℕ → Bool) (column : ℕ → ℕ) (n : ℕ) → ((j : ℕ) → j < n → P (column j))
      → Each P (columns_where test column n)
  each-where test column n p = each_from test column 0 n (λ j l. p j (omega arith))

  -- so of the leftmost, where there is one
  pub each-leftmost : (ks : List ℕ) (k : ℕ) → Each P ks → leftmost ks ≡ k → 1 ≤ k → P k
  each-leftmost [] k no_more e h = absurd (omega arith)
  each-leftmost (j ∷ ks) k (one p r) e h = subst P e p

-- ---- a test that is computed for each number below n

-- the table of n zeros stands for the numbers below n
abbrev zeros : ℕ → List ℕ
zeros n = replicate n 0

pub computed : (test : ℕ → Bool) (n : ℕ) → T (every (λ k x. test k) 0 (zeros n)) → length (zeros n) ≡ n
    → (k : ℕ) → k < n → test k ≡ true
computed test n t e k h = true_of (test k) (at (λ k x. test k) (zeros n) t k (subst (λ (m : ℕ). k < m) (sym e) h))

-- of a test that brings about another
pub brought : (a b : Bool) → (not a || b) ≡ true → a ≡ true → b ≡ true
brought true b e h = e
brought false b e h = no h
