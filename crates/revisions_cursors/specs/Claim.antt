-- What the writer of a merge promises is the merge.
use Rattle.std.specs.Prelude.{◌≡◌, List, ℕ}
use Rattle.paper_entry.specs.Judging.{Accepted}
use Rattle.paper_revisions.specs.Merging.{merge_of}
use Rattle.revisions_merging.specs.Cursors.{merge_by_cursors}

abbrev pub CursorsMerge : Type 0
CursorsMerge =
    (held revision : List ℕ) → Accepted held → Accepted revision
    → merge_by_cursors held revision ≡ merge_of held revision
