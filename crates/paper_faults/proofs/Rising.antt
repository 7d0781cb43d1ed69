-- Columns from left to right: of one test, of a rule that is made on some records only, one column before others, a
-- test on each of several places.
-- Assumes nothing.
use Prim.Native.Nat.{ℕ, zero, suc, ◌+◌, ◌<◌, ◌≤◌}
use mathlib.Core.Bool.{Bool, true, false, cond}
use mathlib.Core.List.{List, [], ◌∷◌, ◌++◌}
use native.Mathlib.Omega.{arith}
use Rattle.paper_faults.specs.Fault.{on, when, columns_from, columns_where}
use Rattle.paper_faults.specs.Rising.{Rising, no-column, column}

pub lower : {last : ℕ} (a b : ℕ) (ks : List ℕ) → a ≤ b → Rising last b ks → Rising last a ks
lower a b [] h no-column = no-column
lower a b (k ∷ ks) h (column l m r) = let n : a ≤ k = omega arith in column n m r

pub when-rising : {last : ℕ} (t : Bool) (a k : ℕ) → a ≤ k → k ≤ last → Rising last a (when t k)
when-rising true a k h l = column h l no-column
when-rising false a k h l = no-column

pub on-rising : {last : ℕ} (t : Bool) (ks : List ℕ) → Rising last 1 ks → Rising last 1 (on t ks)
on-rising true ks r = r
on-rising false ks r = no-column

-- one column, then others that stand no further left
pub before-rising : {last : ℕ} (t : Bool) (a k : ℕ) (ks : List ℕ) → a ≤ k → k ≤ last → Rising last k ks
    → Rising last a (when t k ++ ks)
before-rising true a k ks h l r = column h l r
before-rising false a k ks h l r = lower a k ks h r

module _ {last : ℕ} (test : ℕ → Bool) (place : ℕ → ℕ) (up : (k : ℕ) → place k ≤ place (k + 1)) where
  from-rising : (i n : ℕ) → ((k : ℕ) → k < i + n → place k ≤ last)
      → Rising last (place i) (columns_from test place i n)
  unfolding columns_from
  from-rising i zero most = no-column
  from-rising i (suc n) most =
      by-test (test i) (columns_from test place (i + 1) n) (from-rising (i + 1) n (λ k l. most k (omega arith)))
    where
      by-test : (t : Bool) (ks : List ℕ) → Rising last (place (i + 1)) ks → Rising last (place i) (cond t (place i ∷ ks) ks)
      by-test true ks r =
          let n : place i ≤ place i = omega arith in
          column n (most i (omega arith)) (lower (place i) (place (i + 1)) ks (up i) r)
      by-test false ks r = lower (place i) (place (i + 1)) ks (up i) r

  pub where-rising : (n : ℕ) → 1 ≤ place 0 → ((k : ℕ) → k < n → place k ≤ last)
      → Rising last 1 (columns_where test place n)
  where-rising n h most =
      lower 1 (place 0) (columns_where test place n) h (from-rising 0 n (λ k l. most k (omega arith)))
