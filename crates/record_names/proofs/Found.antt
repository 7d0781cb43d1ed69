-- What the layers above use of an identifier, without opening its definition.
-- Assumes nothing.
use mathlib.Core.List.{List}
use Prim.Native.Nat.{ℕ, ◌≤◌}
use Rattle.laws.proofs.Search.{first_to}
use Rattle.paper_record.specs.Identifier.{OTHER, is_name, identifier_of}

pub identifier-upto : (f : List ℕ) → identifier_of f ≤ OTHER
unfolding identifier_of
identifier-upto f = first_to (is_name f) 0 OTHER
