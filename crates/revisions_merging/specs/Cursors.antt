-- The merge by two cursors, one over each entry, from number to number; of any bytes. That it is the merge of two accepted
-- entries is the law `cursors-merge`.
use Rattle.std.specs.Prelude.{ℕ, zero, suc, ◌+◌, ◌-◌, ◌*◌, ◌<◌, ◌≤◌, ◌≡◌, cond, ◌||◌, List, ◌++◌, length, take}
use Rattle.paper_rules.specs.Limits.{LAST-SUBENTRY}
use Rattle.paper_revisions.specs.declared.types.Extent.{Extent}
use Rattle.paper_revisions.specs.Extents.{records_of, past_from, bytes_of}
use Rattle.paper_revisions.specs.Taken.{some, by_revision}
use Rattle.paper_revisions.specs.Merging.{entry_record, end_record}
use Rattle.revisions_merging.specs.declared.types.Cursors.{Cursors}

-- the records from the index i on that say n
abbrev pub met_at : List ℕ → ℕ → ℕ → Extent
met_at s n i = record { from = i; past = past_from s n i }

-- ---- one number, d of the held entry and e of the revision

unfoldable pub taken_of : List ℕ → List ℕ → Extent → Extent → List ℕ
taken_of held revision d e = cond (by_revision held revision d e) (bytes_of revision e) (bytes_of held d)

abbrev pub counts_one : Extent → Extent → ℕ
counts_one d e = cond (some d || some e) 1 0

-- the cursors behind the number n
unfoldable pub behind_one : List ℕ → List ℕ → ℕ → Cursors → Cursors
behind_one held revision n c =
    let d : Extent = met_at held n c.held in
    let e : Extent = met_at revision n c.revision in
    record {
      held = d.past;
      revision = e.past;
      at = c.at + length (taken_of held revision d e);
      count = c.count + counts_one d e;
    }

-- ---- all of them

-- what is still to be written: k numbers from n on, with the cursors at i and j, and ENDENTRY
unfoldable pub rest_from : List ℕ → List ℕ → ℕ → ℕ → ℕ → ℕ → ℕ → List ℕ
rest_from held revision zero n i j count = end_record revision count
rest_from held revision (suc k) n i j count =
    taken_of held revision (met_at held n i) (met_at revision n j)
    ++ rest_from held revision k (n + 1) (met_at held n i).past (met_at revision n j).past
    (count + counts_one (met_at held n i) (met_at revision n j))

unfoldable pub merge_by_cursors : List ℕ → List ℕ → List ℕ
merge_by_cursors held revision = entry_record held revision ++ rest_from held revision LAST-SUBENTRY 1 1 1 0

-- ---- what the writer is lent

-- ENTRY at least, and room for both
pub record Room (held revision out : List ℕ) : Type 0 where
  pub held_some : 81 ≤ length held
  pub revision_some : 81 ≤ length revision
  pub both : length held + length revision ≤ length out

-- and ENTRY is written
pub record Begun (held revision out : List ℕ) : Type 0 where
  pub room : Room held revision out
  pub entry_written : take 81 out ≡ entry_record held revision

-- what is written is no more than what the cursors have passed, and ENDENTRY has room
pub record Upto (held revision out : List ℕ) (n : ℕ) (c : Cursors) : Type 0 where
  pub both : length held + length revision ≤ length out
  pub held_in : c.held ≤ records_of held
  pub revision_in : c.revision ≤ records_of revision
  pub written : c.at + 81 ≤ (c.held + c.revision) * 81
  pub counted : c.count < n
