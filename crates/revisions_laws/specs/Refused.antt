-- By what a merge of two accepted entries is refused, as far as its length and its last record go.
use Rattle.std.specs.Prelude.{ℕ, ◌<◌, ◌≡◌, ◌↔◌, List}
use Rattle.paper_entry.specs.Verdict.{refused}
use Rattle.paper_entry.specs.Judging.{judge_of, Accepted}
use Rattle.paper_revisions.specs.Extents.{records_of}
use Rattle.paper_revisions.specs.Merging.{merge_of}

-- 1 exactly where the merge has more than 20,000 records; then record 0 and column 0
pub record TooLong (m : List ℕ) : Type 0 where
  pub exactly : ((judge_of m).refusal ≡ 1) ↔ (20000 < records_of m)
  pub beside : 20000 < records_of m → judge_of m ≡ refused 1 (record { 0 = 0 }) 0

abbrev pub MergeTooLong : Type 0
MergeTooLong = (held revision : List ℕ) → Accepted held → Accepted revision → TooLong (merge_of held revision)

-- never 16: its last record is ENDENTRY
abbrev pub MergeEnded : Type 0
MergeEnded =
    (held revision : List ℕ) → Accepted held → Accepted revision → (judge_of (merge_of held revision)).refusal ≡ 16 → ⊥
