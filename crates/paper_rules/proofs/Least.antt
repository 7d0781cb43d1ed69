-- "within one record the lowest number; within that the leftmost column": the fault of a record is the least of all
-- that the rules find on it, by number and then by column, and in the bounds of both; and there is none only where they
-- find nothing. All of it because the findings stand by rising numbers, each with its columns from left to right.
-- Assumes nothing.
use Rattle.paper_faults.specs.Fault.{faultless}
use Prim.Native.Nat.{ℕ, ◌<◌}
use mathlib.Core.Path.{◌≡◌}
use mathlib.Core.List.{List, []}
use lib.ListN.{length, get_or}
use Rattle.laws.specs.Walk.{All}
use Rattle.laws.proofs.Walk.{all-at}
use Rattle.paper_faults.specs.Least.{no_finding}
use Rattle.paper_faults.proofs.Least.{first-least, first-bounds, Empty, first-none, none_first}
use Rattle.paper_rules.specs.declared.types.Track.{Track}
use Rattle.paper_rules.specs.State.{Seen}
use Rattle.paper_rules.specs.Order.{findings, fault_of, FaultLeast}
use Rattle.paper_rules.specs.Rising.{FaultBounded}
use Rattle.paper_rules.proofs.Rising.{findings-rise}

-- it is the least of what the rules find
pub fault-least : FaultLeast
unfolding fault_of
fault-least t s role fs r n k e = first-least 1 (findings t s role fs r) (findings-rise t s role fs r) n k e

-- in the bounds of its number and its column
pub fault-bounds : FaultBounded
fault-bounds t s role fs r n k e =
    first-bounds 1 (findings t s role fs r) (findings-rise t s role fs r) n k (fault-least t s role fs r n k e)

module _ (t : Track) (s : Seen) (role : ℕ) (fs : List (List ℕ)) (r : List ℕ) where
  -- and where there is none, no rule finds anything
  pub fine-empty : fault_of t s role fs r ≡ faultless → All Empty (findings t s role fs r)
  unfolding fault_of
  fine-empty e = first-none 1 (findings t s role fs r) (findings-rise t s role fs r) e

  pub empty-fine : All Empty (findings t s role fs r) → fault_of t s role fs r ≡ faultless
  unfolding fault_of
  empty-fine h = none_first (findings t s role fs r) h

  -- the same by places
  pub fault-none : fault_of t s role fs r ≡ faultless
      → (i : ℕ) → i < length (findings t s role fs r) → (get_or (findings t s role fs r) i no_finding).columns ≡ []
  fault-none e = all-at Empty no_finding (findings t s role fs r) (fine-empty e)
