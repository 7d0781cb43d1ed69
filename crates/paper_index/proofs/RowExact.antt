-- The row that is found is the first with its number, and nothing else is found.
-- Assumes nothing.
use Prim.Native.Nat.{ℕ, ◌+◌, ◌*◌, ◌/◌, ◌%◌, ◌<◌}
use mathlib.Core.Path.{◌≡◌, refl, subst, ◌∙◌}
use mathlib.Core.Bool.{Bool, true, false}
use mathlib.Core.List.{List}
use native.Mathlib.Omega.{arith}
use native.Mathlib.Nat.{zero-add}
use borrow.Author.Tests.{eq-eqb, ne_eqb, eqb-true, eqb-false}
use lib.Dec.{eqb}
use lib.ListN.{length, get_or}
use Rattle.laws.specs.Search.{first}
use Rattle.laws.proofs.Search.{first_to, first-pass, pass-first}
use Rattle.laws.proofs.Counting.{first_holds, first-before, first-is}
use Rattle.paper_index.specs.declared.types.RowAnswer.{RowAnswer}
use Rattle.paper_index.specs.ByIndex.{has_row, rows_before, row_by_index}
use Rattle.paper_index.specs.Claims.{RowTaken, RowExactly}
use Rattle.paper_index.specs.Claims.RowTaken.{not_whole, none, found}

module _ (t : List ℕ) (n : ℕ) where
  abbrev rows : ℕ
  rows = length t / 5

  said : RowTaken t n (row_by_index t n)
  unfolding row_by_index rows_before
  said = by_tests (eqb (length t % 5) 0) refl (eqb (rows_before t n) rows) refl
    where
      by_tests : (a : Bool) → eqb (length t % 5) 0 ≡ a → (b : Bool) → eqb (rows_before t n) rows ≡ b
          → RowTaken t n (row_by_index t n)
      by_tests false p b q = rw p (not_whole (eqb-false (length t % 5) 0 p))
      by_tests true p true q =
          let e = eqb-true (rows_before t n) rows q in
          rw (p, q)
          (none (eqb-true (length t % 5) 0 p)
          (λ i l z.
          eqb-false (get_or t (i * 5) 0) n
          (first-pass (has_row t n) 0 rows (omega (arith, e)) i (omega arith) (omega arith)) z))
      by_tests true p false q =
          let h = eqb-false (rows_before t n) rows q in
          let m = first_to (has_row t n) 0 rows in
          let l : rows_before t n < rows = omega (arith, h) in
          rw (p, q)
          (found (eqb-true (length t % 5) 0 p) (rows_before t n) l
          (eqb-true (get_or t (rows_before t n * 5) 0) n (first_holds (has_row t n) 0 rows (omega arith)))
          (λ j k z. eqb-false (get_or t (j * 5) 0) n (first-before (has_row t n) 0 rows j (omega arith) k (omega arith)) z))

  back : {a : RowAnswer} → RowTaken t n a → row_by_index t n ≡ a
  unfolding row_by_index rows_before
  back (not_whole h) = rw (ne_eqb (length t % 5) 0 h) refl
  back (none w h) =
      let e : first (has_row t n) 0 rows ≡ 0 + rows =
      pass-first (has_row t n) 0 rows (λ k l m. ne_eqb (get_or t (k * 5) 0) n (h k (omega arith))) in
      let z : rows_before t n ≡ rows = e ∙ zero-add rows in
      rw (eq-eqb (length t % 5) 0 w, eq-eqb (rows_before t n) rows z) refl
  back (found w i l e before) =
      let z : rows_before t n ≡ i =
      first-is (has_row t n) 0 rows i (omega arith) (omega arith) (eq-eqb (get_or t (i * 5) 0) n e)
      (λ j k m. ne_eqb (get_or t (j * 5) 0) n (before j m)) in
      rw (eq-eqb (length t % 5) 0 w, z, ne_eqb i rows (λ q. omega arith)) refl

pub row-exactly : RowExactly
row-exactly t n a = (λ e. subst (RowTaken t n) e (said t n), back t n)
