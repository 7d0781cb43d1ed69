-- What the merge holds, and that it holds nothing else (document 02, M-109: "in number order, NOSUBENTs too").
use Rattle.std.specs.Prelude.{ℕ, ◌-◌, ◌*◌, ◌≡◌, Bool, false, ◌↔◌, List, [], ◌++◌, length, take, drop}
use Rattle.laws.specs.Blocks.{block_at}
use Rattle.laws.specs.Members.{join_of}
use Rattle.paper_entry.specs.Judging.{Accepted}
use Rattle.paper_revisions.specs.Extents.{records_of, has}
use Rattle.paper_revisions.specs.Merging.{merge_of}
use Rattle.revisions_extents_laws.specs.Order.{part_in}
use Rattle.revisions_laws.specs.Picks.{Holds, one_of, bytes_under}

-- under n: the records of the one that holds it, be they NOSUBENT alone; nothing where neither has it
pub data PartSays (held revision : List ℕ) (n : ℕ) : List ℕ → Type 0 where
  of_holder : (which : Bool) → Holds held revision n which
      → PartSays held revision n (bytes_under (one_of held revision which) n)
  of_neither : has held n ≡ false → has revision n ≡ false → PartSays held revision n []

abbrev pub MergeParts : Type 0
MergeParts =
    (held revision : List ℕ) → Accepted held → Accepted revision → (n : ℕ) (part : List ℕ)
    → (part_in (merge_of held revision) n ≡ part) ↔ PartSays held revision n part

-- it is whole records: its ENTRY, these parts by their numbers, its ENDENTRY
pub record OnlyThese (m : List ℕ) : Type 0 where
  pub records : length m ≡ records_of m * 81
  pub whole : m ≡ block_at 81 m 0 ++ (join_of (part_in m) 1 998 ++ block_at 81 m (records_of m - 1))

abbrev pub MergeWhole : Type 0
MergeWhole = (held revision : List ℕ) → Accepted held → Accepted revision → OnlyThese (merge_of held revision)

-- the same with no word of what the merge itself would be read as: it may be refused
pub record MadeOf (held revision m : List ℕ) : Type 0 where
  pub part : ℕ → List ℕ
  pub says : (n : ℕ) → PartSays held revision n (part n)
  pub made : m ≡ take 81 m ++ (join_of part 1 998 ++ drop (length m - 81) m)

abbrev pub MergeOfParts : Type 0
MergeOfParts =
    (held revision : List ℕ) → Accepted held → Accepted revision → MadeOf held revision (merge_of held revision)
