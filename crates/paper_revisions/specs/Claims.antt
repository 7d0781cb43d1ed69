-- What is to be proved of revisions: of the records of a subentry and of the merge as it is defined. What is answered, in plain
-- words, stands in revisions_laws.
use Rattle.std.specs.Prelude.{◌≡◌, true, List, ◌++◌, ℕ, ◌+◌, ◌-◌, ◌*◌, ◌≤◌, ◌<◌, length, take, drop}
use Rattle.paper_entry.specs.Judging.{Accepted}
use Rattle.paper_revisions.specs.Extents.{records_of, subentry_at, extent_of, has, bytes_of}
use Rattle.paper_revisions.specs.Merging.{present, chosen, how_many_of, count_columns, merge_of}

-- ---- the records of a subentry are those whose columns 72-74 say its number, and no others

pub record OfSubentry (s : List ℕ) (n i : ℕ) : Type 0 where
  pub there : i < records_of s
  pub said : subentry_at s i ≡ n

abbrev pub ExtentWhole : Type 0
ExtentWhole =
    (s : List ℕ) → Accepted s → (n : ℕ) → has s n ≡ true → (i : ℕ) → OfSubentry s n i
    → ((extent_of s n).from ≤ i) × (i < (extent_of s n).past)

abbrev pub ExtentOnly : Type 0
ExtentOnly =
    (s : List ℕ) (n i : ℕ) → (extent_of s n).from ≤ i → i < (extent_of s n).past → OfSubentry s n i

-- ---- the merge

-- it has each number that either has, with the records chosen, and no other number
abbrev pub MergeHolds : Type 0
MergeHolds =
    (held revision : List ℕ) → Accepted held → Accepted revision → (n : ℕ)
    → (has (merge_of held revision) n ≡ present held revision n)
    × (present held revision n ≡ true
    → bytes_of (merge_of held revision) (extent_of (merge_of held revision) n) ≡ chosen held revision n)

-- so 37's room is enough
abbrev pub MergeShort : Type 0
MergeShort =
    (held revision : List ℕ) → Accepted held → Accepted revision
    → length (merge_of held revision) ≤ length held + length revision

-- an entry merged with itself is as it was, but for the spelling of ENDENTRY's count in columns 12 to 22
abbrev pub MergeSelf : Type 0
MergeSelf =
    (s : List ℕ) → Accepted s
    → merge_of s s
    ≡ take ((records_of s - 1) * 81 + 11) s ++ (count_columns (how_many_of s s) ++ drop ((records_of s - 1) * 81 + 22) s)
