-- What the function that stores the copy of an entry asks for.
use Rattle.std.specs.Prelude.{ℕ, ◌≤◌, List, length}
use Rattle.paper_entry.specs.Judging.{Accepted}

-- an accepted entry, and a buffer that is as long
pub record Room (s out : List ℕ) : Type 0 where
  pub accepted : Accepted s
  pub room : length s ≤ length out
