-- What the way over the system records asks for, and what it counts.
use Rattle.std.specs.Prelude.{ℕ, ◌+◌, ◌≤◌, cond, List, length}
use Rattle.paper_rules.specs.Roles.{opens_subentry}
use Rattle.paper_entry.specs.Judging.{Accepted}
use Rattle.paper_index.specs.Rows.{index_of}

-- an accepted entry, and a slice with room for its rows
pub record IndexRoom (s t : List ℕ) : Type 0 where
  pub accepted : Accepted s
  pub room : length (index_of s) ≤ length t

-- how many subentries there are behind a system record
unfoldable pub rows_behind : ℕ → ℕ → ℕ
rows_behind identifier rows = cond (opens_subentry identifier) (rows + 1) rows
