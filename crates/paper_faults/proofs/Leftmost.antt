-- The leftmost of the columns that meet a test is that of the first place at which the test holds.
-- Assumes nothing.
use Prim.Native.Nat.{ℕ, zero, suc, ◌+◌}
use mathlib.Core.Path.{◌≡◌}
use mathlib.Core.Bool.{Bool, true, false, cond}
use mathlib.Core.List.{List, ◌∷◌}
use native.Mathlib.Omega.{arith}
use borrow.Author.Tests.{lt-ltb, le-ltb}
use Rattle.laws.specs.Search.{first}
use Rattle.paper_faults.specs.Fault.{columns_from, columns_where, column_at, leftmost}

leftmost-from : (test : ℕ → Bool) (column : ℕ → ℕ) (i n : ℕ)
    → leftmost (columns_from test column i n) ≡ column_at column (first test i n) (i + n)
unfolding columns_from first
leftmost-from test column i zero = rw (le-ltb i (i + 0) (omega arith))
leftmost-from test column i (suc n) =
    by-test (test i) (first test (i + 1) n) (columns_from test column (i + 1) n) (leftmost-from test column (i + 1) n)
  where
    by-test : (b : Bool) (p : ℕ) (ks : List ℕ) → leftmost ks ≡ column_at column p (i + 1 + n)
        → leftmost (cond b (column i ∷ ks) ks) ≡ column_at column (cond b i p) (i + suc n)
    by-test true p ks e = rw (lt-ltb i (i + suc n) (omega arith))
    by-test false p ks e = let z : i + 1 + n ≡ i + suc n = omega arith in rw z at e

pub leftmost-where : (test : ℕ → Bool) (column : ℕ → ℕ) (n : ℕ)
    → leftmost (columns_where test column n) ≡ column_at column (first test 0 n) n
leftmost-where test column n = let z : 0 + n ≡ n = omega arith in rw z at (leftmost-from test column 0 n)
