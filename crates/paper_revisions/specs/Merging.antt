-- The merged entry (document 02, M-109):
--
--   "A second call writes the merged entry in number order, NOSUBENTs too, its ENTRY and ENDENTRY records the revision's
--   but with the later ENTRY date and the true count, no leading zeros. [..] for the merge, 37 buffer shorter than both
--   lengths together; 63 the merge is refused, and its bytes in the buffer are then blanks, the one exception to demand 1
--   on refused calls."
use Rattle.std.specs.Prelude.{ℕ, ◌+◌, ◌-◌, ◌/◌, ◌%◌, Bool, cond, ◌||◌, List, [], ◌∷◌, ◌++◌, eqb, leb, ltb, length, take, drop, replicate}
use Rattle.laws.specs.Search.{how_many}
use Rattle.laws.specs.Members.{join_of}
use Rattle.laws.specs.Blocks.{block_at}
use Rattle.paper_rules.specs.Limits.{LAST-SUBENTRY}
use Rattle.paper_entry.specs.declared.types.Answer.{Answer}
use Rattle.paper_entry.specs.Judging.{judge_of}
use Rattle.paper_entry.specs.Answer.{refusal, first_of, is_refused}
use Rattle.paper_revisions.specs.declared.types.Merged.{Merged}
use Rattle.paper_revisions.specs.Extents.{records_of, extent_of, has, bytes_of, date_at}
use Rattle.paper_revisions.specs.Picking.{holder, both_refusals, beside_verdict, answer_of_both, which_of_both}

-- ---- the merge

abbrev pub present : List ℕ → List ℕ → ℕ → Bool
present held revision n = has held n || has revision n

-- subentry n as the merge has it; nothing where neither has it
unfoldable pub chosen : List ℕ → List ℕ → ℕ → List ℕ
chosen held revision n =
    cond (present held revision n) (bytes_of (holder held revision n) (extent_of (holder held revision n) n)) []

-- "the true count"
unfoldable pub how_many_of : List ℕ → List ℕ → ℕ
how_many_of held revision = how_many (present held revision) 1 LAST-SUBENTRY

-- a count up to 999 in eleven columns, "no leading zeros"
abbrev pub digit_from : ℕ → ℕ → ℕ → ℕ
digit_from least n digit = cond (leb least n) (48 + digit % 10) 32

unfoldable pub count_columns : ℕ → List ℕ
count_columns n =
    replicate 8 32 ++ (digit_from 100 n (n / 100) ∷ digit_from 10 n (n / 10) ∷ (48 + n % 10) ∷ [])

-- "the revision's but with the later ENTRY date", columns 26 to 33
abbrev pub later_of : List ℕ → List ℕ → List ℕ
later_of held revision = cond (leb (date_at held 0) (date_at revision 0)) revision held

unfoldable pub entry_record : List ℕ → List ℕ → List ℕ
entry_record held revision =
    let r : List ℕ = block_at 81 revision 0 in
    take 25 r ++ (take 8 (drop 25 (block_at 81 (later_of held revision) 0)) ++ drop 33 r)

-- "and the true count, no leading zeros", columns 12 to 22
unfoldable pub end_record : List ℕ → ℕ → List ℕ
end_record revision n =
    let r : List ℕ = block_at 81 revision (records_of revision - 1) in
    take 11 r ++ (count_columns n ++ drop 22 r)

-- "in number order, NOSUBENTs too"
unfoldable pub merge_of : List ℕ → List ℕ → List ℕ
merge_of held revision =
    entry_record held revision
    ++ (join_of (chosen held revision) 1 LAST-SUBENTRY ++ end_record revision (how_many_of held revision))

-- ---- what the call answers, and what the buffer then holds

unfoldable pub merge_refusal : List ℕ → List ℕ → ℕ → ℕ
merge_refusal held revision room =
    first_of
    (both_refusals held revision
    ++ (refusal 37 (ltb room (length held + length revision))
    ∷ refusal 63 (is_refused (judge_of (merge_of held revision)))
    ∷ []))

unfoldable pub merge_answer : List ℕ → List ℕ → ℕ → Answer
merge_answer held revision number =
    cond (eqb number 63) (beside_verdict 63 (judge_of (merge_of held revision))) (answer_of_both held revision number)

-- with 0 and 63 the merge's length
abbrev pub merge_length : List ℕ → List ℕ → ℕ → ℕ
merge_length held revision number = cond (eqb number 0 || eqb number 63) (length (merge_of held revision)) 0

unfoldable pub merged : List ℕ → List ℕ → ℕ → Merged
merged held revision room =
    let number : ℕ = merge_refusal held revision room in
    record {
      answer = merge_answer held revision number;
      which = which_of_both held revision number;
      length = merge_length held revision number;
    }

-- the buffer after the call: the merge, blanks in its place where it is refused, or as it was
unfoldable pub merged_into : List ℕ → List ℕ → List ℕ → List ℕ
merged_into held revision out =
    let number : ℕ = merge_refusal held revision (length out) in
    let long : ℕ = length (merge_of held revision) in
    cond (eqb number 0) (merge_of held revision ++ drop long out)
    (cond (eqb number 63) (replicate long 32 ++ drop long out) out)
