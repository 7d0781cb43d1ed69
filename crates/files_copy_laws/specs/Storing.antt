-- What the function that stores the copy of a file asks for.
use Rattle.std.specs.Prelude.{ℕ, ◌≤◌, List, length}
use Rattle.files_shape.specs.Shape.{FileOf}

-- a file, and a buffer that is as long
pub record FileRoom (s out : List ℕ) : Type 0 where
  pub entries : List (List ℕ)
  pub file : FileOf s entries
  pub room : length s ≤ length out
