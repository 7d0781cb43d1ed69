-- Two counts announce no fault exactly where both meet their limits.
-- Assumes nothing.
use Prim.Native.Nat.{ℕ}
use mathlib.Core.Path.{◌≡◌, refl}
use mathlib.Core.Bool.{Bool, true, false, not, ◌&&◌}
use mathlib.Core.List.{◌++◌}
use lib.Dec.{eqb}
use Rattle.paper_rules.specs.Counts.{limit_n1, limit_n2, meets, announced_fault}
use Rattle.paper_faults.specs.Fault.{when, leftmost}

pub counts-met : (identifier a b : ℕ)
    → eqb (leftmost (announced_fault identifier a b)) 0
    ≡ (meets (limit_n1 identifier) a && meets (limit_n2 identifier a) b)
unfolding announced_fault
counts-met identifier a b = by-test (meets (limit_n1 identifier) a) (meets (limit_n2 identifier a) b)
  where
    by-test : (p q : Bool) → eqb (leftmost (when (not p) 12 ++ when (not q) 23)) 0 ≡ (p && q)
    by-test true true = refl
    by-test true false = refl
    by-test false q = refl
