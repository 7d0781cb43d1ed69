-- What is answered where the merge is asked for, and what the buffer then holds, in each case and in no other (document
-- 02, M-109):
--
--   "for the merge, 37 buffer shorter than both lengths together; 63 the merge is refused, and its bytes in the buffer are
--   then blanks, the one exception to demand 1 on refused calls."
--
-- Written out in full: nothing that the code follows stands here but `merge_of` and `judge_of`.
use Rattle.std.specs.Prelude.{ℕ, ◌+◌, ◌≤◌, ◌<◌, ◌≡◌, ◌↔◌, List, length, get_or, take, drop}
use Rattle.paper_entry.specs.declared.types.Answer.{Answer}
use Rattle.paper_entry.specs.Judging.{judge_of, Accepted}
use Rattle.paper_revisions.specs.declared.types.Merged.{Merged}
use Rattle.paper_revisions.specs.Merging.{merge_of, merged, merged_into}
use Rattle.revisions_laws.specs.Picks.{OneAccession, Paired, beside, bare}

-- the merge, and all behind it as it was
pub record Stored (m out after : List ℕ) : Type 0 where
  pub front : take (length m) after ≡ m
  pub behind : drop (length m) after ≡ drop (length m) out

-- so many blanks, and all behind them as it was
pub record Blanked (long : ℕ) (out after : List ℕ) : Type 0 where
  pub front : (i : ℕ) → i < long → get_or after i 0 ≡ 32
  pub behind : drop long after ≡ drop long out

abbrev pub answered : Answer → ℕ → ℕ → Merged
answered answer which long = record { answer = answer; which = which; length = long }

pub data MergeSays (held revision out : List ℕ) : Merged → List ℕ → Type 0 where
  held_refused : (Accepted held → ⊥) → MergeSays held revision out (answered (beside 60 (judge_of held)) 1 0) out
  revision_refused : Accepted held → (Accepted revision → ⊥)
      → MergeSays held revision out (answered (beside 60 (judge_of revision)) 2 0) out
  accessions_differ : Accepted held → Accepted revision → (OneAccession held revision → ⊥)
      → MergeSays held revision out (answered (bare 61) 0 0) out
  too_short : Paired held revision → length out < length held + length revision
      → MergeSays held revision out (answered (bare 37) 0 0) out
  merge_refused : Paired held revision → length held + length revision ≤ length out
      → (Accepted (merge_of held revision) → ⊥) → (after : List ℕ)
      → Blanked (length (merge_of held revision)) out after
      → MergeSays held revision out
      (answered (beside 63 (judge_of (merge_of held revision))) 0 (length (merge_of held revision))) after
  merge_made : Paired held revision → length held + length revision ≤ length out
      → Accepted (merge_of held revision) → (after : List ℕ) → Stored (merge_of held revision) out after
      → MergeSays held revision out (answered (bare 0) 0 (length (merge_of held revision))) after

abbrev pub MergeSaid : Type 0
MergeSaid =
    (held revision out : List ℕ) (a : Merged) (after : List ℕ)
    → ((merged held revision (length out) ≡ a) × (merged_into held revision out ≡ after))
    ↔ MergeSays held revision out a after

-- "Demand 3 holds for a merge that was delivered": what the caller has is accepted
abbrev pub Delivered : Type 0
Delivered =
    (held revision out : List ℕ) → (merged held revision (length out)).answer.number ≡ 0
    → Accepted (take (merged held revision (length out)).length (merged_into held revision out))
