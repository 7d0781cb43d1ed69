-- The row that a question goes by: that behind the last record of an accepted entry, the empty one of a refused one.
-- Assumes nothing.
use Prim.Native.Nat.{ℕ, ◌/◌}
use mathlib.Core.Path.{◌≡◌}
use mathlib.Core.List.{List}
use borrow.Author.Tests.{ne_eqb, eq-eqb}
use lib.ListN.{length}
use Rattle.paper_questions.specs.Row.{empty_row}
use Rattle.paper_entry.specs.Judging.{judge_of, Accepted}
use Rattle.paper_questions.specs.Located.{row_at, row_of}

-- in a refused entry the row is empty
pub refused-row : (s : List ℕ) (number : ℕ) → ((judge_of s).refusal ≡ 0 → ⊥) → row_of s number ≡ empty_row number
unfolding row_of
refused-row s number h = rw (ne_eqb (judge_of s).refusal 0 h)

pub found-row : (s : List ℕ) (number : ℕ) → Accepted s → row_of s number ≡ row_at s number (length s / 81)
unfolding row_of
found-row s number a = rw (eq-eqb (judge_of s).refusal 0 a)
