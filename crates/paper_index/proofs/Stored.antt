-- Numbers stored over the first ones of a slice, five at a time: a row more, or the last row anew.
-- Assumes nothing.
use Prim.Native.Nat.{ℕ, ◌+◌, ◌≤◌}
use mathlib.Core.Path.{◌≡◌, sym, ap, ◌∙◌}
use mathlib.Core.List.{List, ◌++◌}
use native.Mathlib.Omega.{arith}
use native.Mathlib.Nat.{add-sub_of_le}
use lib.ListN.{length, take, drop, length-append, length-drop}
use lib.Seq.{paste, take-append_seam, take-append-le, drop-append-add, drop_at, drop-drop}
use Rattle.paper_questions.specs.declared.types.Row.{Row}
use Rattle.paper_index.specs.Rows.{row_numbers}
use Rattle.paper_index.specs.Making.{over}

-- what is stored does not make the slice longer
pub over-length : (xs t : List ℕ) → length xs ≤ length t → length (over xs t) ≡ length t
over-length xs t h =
    length-append xs (drop (length xs) t) ∙ ap (λ (k : ℕ). length xs + k) (length-drop (length xs) t) ∙ add-sub_of_le h

module _ (xs t : List ℕ) (x : Row) where
  five-more : length (xs ++ row_numbers x) ≡ length xs + 5
  five-more = length-append xs (row_numbers x)

  -- a row behind those that are stored
  pub over-more : paste (over xs t) (length xs) (row_numbers x) 5 ≡ over (xs ++ row_numbers x) t
  over-more =
      let rest : drop (length xs + 5) (over xs t) ≡ drop (length (xs ++ row_numbers x)) t =
      drop-append-add xs (drop (length xs) t) 5 ∙ drop-drop 5 (length xs) t
      ∙ ap (λ (k : ℕ). drop k t) (sym five-more) in
      rw (take-append_seam xs (drop (length xs) t), rest)

  -- the last of those that are stored
  pub over-again : (y : Row) → paste (over (xs ++ row_numbers y) t) (length xs) (row_numbers x) 5 ≡ over (xs ++ row_numbers x) t
  over-again y =
      let long : length (xs ++ row_numbers y) ≡ length xs + 5 = length-append xs (row_numbers y) in
      let front : take (length xs) (over (xs ++ row_numbers y) t) ≡ xs =
      take-append-le (length xs) (xs ++ row_numbers y) _ (omega (arith, long)) ∙ take-append_seam xs (row_numbers y) in
      let rest : drop (length xs + 5) (over (xs ++ row_numbers y) t) ≡ drop (length (xs ++ row_numbers x)) t =
      drop_at (xs ++ row_numbers y) (drop (length (xs ++ row_numbers y)) t) (length xs + 5) long
      ∙ ap (λ (k : ℕ). drop k t) (long ∙ sym five-more) in
      rw (front, rest)
