-- The count of a merge (document 02, M-109: "and the true count, no leading zeros").
use Rattle.std.specs.Prelude.{ℕ, ◌-◌, ◌<◌, ◌≡◌, ◌||◌, List, get_or}
use Rattle.laws.specs.Blocks.{block_at}
use Rattle.laws.specs.Search.{how_many}
use Rattle.std.specs.Prelude.{Some}
use Rattle.paper_record.specs.Fields.{fields_of, n1}
use Rattle.paper_record.specs.System.{start_of, count_of}
use Rattle.paper_entry.specs.Judging.{Accepted}
use Rattle.paper_revisions.specs.Extents.{records_of, has}
use Rattle.paper_revisions.specs.Merging.{count_columns, merge_of}

-- the count that is written is read as it was meant, as the judge reads every count; and its first filled column is no
-- `0`, unless the count is 0
pub record ReadBack (n : ℕ) : Type 0 where
  pub reads : count_of (count_columns n) ≡ Some n
  pub leading : (n ≡ 0 → ⊥) → get_or (count_columns n) (start_of 11 (count_columns n)) 0 ≡ 48 → ⊥

abbrev pub CountRead : Type 0
CountRead = (n : ℕ) → n < 1000 → ReadBack n

-- how many numbers from 1 to 998 either of the two has
abbrev pub either_has : List ℕ → List ℕ → ℕ
either_has held revision = how_many (λ n. has held n || has revision n) 1 998

-- N1 of the merge's last record, ENDENTRY
abbrev pub count_field : List ℕ → List ℕ
count_field m = n1 (fields_of (block_at 81 m (records_of m - 1)))

-- it says so many, with no leading zero; and so many numbers the merge has
pub record TrueCount (held revision : List ℕ) : Type 0 where
  pub written : count_of (count_field (merge_of held revision)) ≡ Some (either_has held revision)
  pub leading : get_or (count_field (merge_of held revision)) (start_of 11 (count_field (merge_of held revision))) 0 ≡ 48 → ⊥
  pub own : how_many (has (merge_of held revision)) 1 998 ≡ either_has held revision

abbrev pub MergeCount : Type 0
MergeCount = (held revision : List ℕ) → Accepted held → Accepted revision → TrueCount held revision
