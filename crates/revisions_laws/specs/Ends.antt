-- The ENTRY and ENDENTRY records of a merge, column by column (document 02, M-109):
--
--   "its ENTRY and ENDENTRY records the revision's but with the later ENTRY date and the true count"
use Rattle.std.specs.Prelude.{ℕ, ◌+◌, ◌-◌, ◌*◌, ◌≤◌, ◌<◌, ◌≡◌, List, get_or}
use Rattle.laws.specs.Blocks.{block_at}
use Rattle.paper_record.specs.System.{number_in}
use Rattle.paper_entry.specs.Judging.{Accepted}
use Rattle.paper_revisions.specs.Extents.{records_of, subentry_at}
use Rattle.paper_revisions.specs.Merging.{merge_of}

-- "YYYYMMDD" in columns 26 to 33 of the record with the index i, as one number
abbrev pub dated : List ℕ → ℕ → ℕ
dated s i = number_in (block_at 81 s i) 25 8

-- byte k of the record with the index i
abbrev pub byte_at : List ℕ → ℕ → ℕ → ℕ
byte_at s i k = get_or s (i * 81 + k) 0

-- the first record: the revision's, but for the date
pub record EntryMerged (held revision : List ℕ) : Type 0 where
  pub before : (k : ℕ) → k < 25 → byte_at (merge_of held revision) 0 k ≡ byte_at revision 0 k
  pub behind : (k : ℕ) → 33 ≤ k → k < 81 → byte_at (merge_of held revision) 0 k ≡ byte_at revision 0 k
  pub date : dated held 0 ≤ dated revision 0 → (k : ℕ) → 25 ≤ k → k < 33
      → byte_at (merge_of held revision) 0 k ≡ byte_at revision 0 k
  pub later : dated revision 0 < dated held 0 → (k : ℕ) → 25 ≤ k → k < 33
      → byte_at (merge_of held revision) 0 k ≡ byte_at held 0 k
  pub subentry : subentry_at (merge_of held revision) 0 ≡ 0

-- the last record: the revision's, but for the count
pub record EndMerged (held revision : List ℕ) : Type 0 where
  pub before : (k : ℕ) → k < 11
      → byte_at (merge_of held revision) (records_of (merge_of held revision) - 1) k
      ≡ byte_at revision (records_of revision - 1) k
  pub behind : (k : ℕ) → 22 ≤ k → k < 81
      → byte_at (merge_of held revision) (records_of (merge_of held revision) - 1) k
      ≡ byte_at revision (records_of revision - 1) k
  pub subentry : subentry_at (merge_of held revision) (records_of (merge_of held revision) - 1) ≡ 999

abbrev pub MergeEnds : Type 0
MergeEnds =
    (held revision : List ℕ) → Accepted held → Accepted revision
    → EntryMerged held revision × EndMerged held revision
