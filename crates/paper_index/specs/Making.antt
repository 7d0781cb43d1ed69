-- Making the index (document 02, M-102):
--
--   "Refusals: making, 31, then 38 slice too short for the rows (numbers past them stay)"
use Rattle.std.specs.Prelude.{ℕ, ◌*◌, cond, not, List, [], ◌∷◌, ◌++◌, eqb, ltb, length, drop}
use Rattle.paper_entry.specs.Answer.{refusal, first_of, answer_for}
use Rattle.paper_entry.specs.Judging.{judge_of}
use Rattle.paper_index.specs.declared.types.Made.{Made}
use Rattle.paper_index.specs.Rows.{index_of}

-- the rows that an entry has: its subentries, NOSUBENT included; none of a refused one. That the index of an accepted entry
-- has so many is the law `index-length`
abbrev pub rows_in : List ℕ → ℕ
rows_in s = (judge_of s).totals.subentries

-- of an entry with this refusal and so many rows, for a slice of so many numbers
abbrev pub refusal_for : ℕ → ℕ → ℕ → ℕ
refusal_for refused rows numbers =
    first_of (refusal 31 (not (eqb refused 0)) ∷ refusal 38 (ltb numbers (5 * rows)) ∷ [])

abbrev pub making_refusal : List ℕ → ℕ → ℕ
making_refusal s numbers = refusal_for (judge_of s).refusal (rows_in s) numbers

unfoldable pub made : List ℕ → ℕ → Made
made s numbers = record { answer = answer_for (judge_of s) (making_refusal s numbers); rows = rows_in s }

-- the slice afterwards: "numbers past them stay"
abbrev pub over : List ℕ → List ℕ → List ℕ
over xs t = xs ++ drop (length xs) t

-- "A refused call stores nothing."
unfoldable pub stored_index : List ℕ → List ℕ → List ℕ
stored_index s t = cond (eqb (making_refusal s (length t)) 0) (over (index_of s) t) t
