-- The fault of a record is a refusal up to 17 at a column up to 81: it is in the bounds of the table.
-- Assumes nothing.
use Rattle.paper_faults.specs.Fault.{fault_at}
use Prim.Native.Nat.{ℕ, ◌<◌, ◌≤◌}
use mathlib.Core.Path.{◌≡◌}
use mathlib.Core.List.{List}
use native.Mathlib.Omega.{arith}
use Rattle.paper_rules.specs.declared.types.Track.{Track}
use Rattle.paper_rules.specs.State.{Seen}
use Rattle.paper_rules.specs.Order.{fault_of}
use Rattle.paper_rules.proofs.Least.{fault-bounds}

-- a refusal up to 17, at a column up to 81
pub record Near (n k : ℕ) : Type 0 where
  pub some : 0 < n
  pub number : n ≤ 17
  pub column : k ≤ 81

pub near-fault : (t : Track) (s : Seen) (role : ℕ) (fs : List (List ℕ)) (r : List ℕ) (n k : ℕ)
    → fault_of t s role fs r ≡ fault_at n k → Near n k
near-fault t s role fs r n k e =
    let b = fault-bounds t s role fs r n k e in
    let low = b.above in
    let high = b.to_last in
    record { some = omega arith; number = omega arith; column = b.to_column }
