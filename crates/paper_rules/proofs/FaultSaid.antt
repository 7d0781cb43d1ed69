-- What is answered of a record, exactly: 0 0 where the rules find nothing, else the least that they find.
-- Assumes nothing.
use Prim.Native.Nat.{ℕ}
use mathlib.Core.Path.{◌≡◌}
use mathlib.Core.List.{List}
use Rattle.paper_faults.specs.Fault.{Finding, fault_at, faultless}
use Rattle.paper_faults.specs.Least.{Least, Nothing}
use Rattle.paper_faults.proofs.FaultSaid.{nothing-first, least_first, first-exactly}
use Rattle.paper_rules.specs.declared.types.Track.{Track}
use Rattle.paper_rules.specs.State.{Seen}
use Rattle.paper_rules.specs.Order.{findings, fault_of, FaultExactly}
use Rattle.paper_rules.proofs.Rising.{findings-rise}

module _ (t : Track) (s : Seen) (role : ℕ) (fs : List (List ℕ)) (r : List ℕ) where
  abbrev found : List Finding
  found = findings t s role fs r

  pub nothing-fine : Nothing (findings t s role fs r) → fault_of t s role fs r ≡ faultless
  unfolding fault_of
  nothing-fine none = nothing-first found (findings-rise t s role fs r) none

  pub least-fault : (n k : ℕ) → Least (findings t s role fs r) n k → fault_of t s role fs r ≡ fault_at n k
  unfolding fault_of
  least-fault n k l = least_first found (findings-rise t s role fs r) n k l

pub fault-exactly : FaultExactly
unfolding fault_of
fault-exactly t s role fs r a = first-exactly (findings t s role fs r) (findings-rise t s role fs r) a
