-- At most six fields of a record are used.
-- Assumes nothing.
use Prim.Native.Nat.{◌≤◌}
use native.Mathlib.Omega.{arith}
use borrow.Author.Tests.{leb-true}
use lib.Dec.{leb}
use Rattle.laws.proofs.Booleans.{either-as}
use Rattle.paper_rules.specs.declared.types.Track.{Track}
use Rattle.paper_rules.specs.State.{used}

pub used-few : (t : Track) → used t ≤ 6
unfolding used
used-few t = either-as (λ n. n ≤ 6) (leb t.table.rest 6) _ _ (leb-true t.table.rest 6) (λ e. omega arith)
