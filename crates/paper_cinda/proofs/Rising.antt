-- The rules of a line stand by rising numbers, 71 to 77, and each gives its columns from left to right, up to 126: so the
-- first fault is the least.
-- Assumes nothing.
use Prim.Native.Nat.{ℕ, ◌+◌, ◌<◌}
use mathlib.Core.Bool.{true, not}
use mathlib.Core.List.{List, ◌++◌}
use native.Mathlib.Omega.{arith}
use lib.Dec.{eqb}
use Rattle.paper_faults.specs.Fault.{when}
use Rattle.paper_faults.specs.Rising.{Rising, Sorted, no_more, also}
use Rattle.paper_faults.proofs.Rising.{when-rising, before-rising, where-rising}
use Rattle.paper_record.specs.Class.{not_permitted}
use Rattle.paper_record.specs.Numbers.{form_at, no_value}
use Rattle.paper_cinda.specs.Layout.{column_of, energy_at}
use Rattle.paper_cinda.specs.Rules.{rule71, rule72, rule73, rule74, rule75, rule76, rule77, findings}
use Rattle.paper_cinda.specs.Rules.{is_operation, good_z, good_mass, good_isomer, good_block, is_integer, good_date}

module _ (l : List ℕ) where
  rise71 : Rising 126 1 (rule71 l)
  unfolding rule71
  rise71 = when-rising (not (eqb (column_of l 126) 10)) 1 126 (omega arith) (omega arith)

  rise72 : Rising 126 1 (rule72 l)
  unfolding rule72
  rise72 = where-rising (not_permitted l) (λ i. i + 1) (λ k. omega arith) 125 (omega arith) (λ k h. omega arith)

  rise73 : Rising 126 1 (rule73 l)
  unfolding rule73
  rise73 = when-rising (not (is_operation (column_of l 1))) 1 1 (omega arith) (omega arith)

  rise74 : Rising 126 1 (rule74 l)
  unfolding rule74
  rise74 =
      before-rising (not (good_z l)) 1 2 (when (not (good_mass l)) 5 ++ when (not (good_isomer l)) 8)
      (omega arith) (omega arith)
      (before-rising (not (good_mass l)) 2 5 (when (not (good_isomer l)) 8) (omega arith) (omega arith)
      (when-rising (not (good_isomer l)) 5 8 (omega arith) (omega arith)))

  rise75 : Rising 126 1 (rule75 l)
  unfolding rule75
  rise75 =
      before-rising (not (good_block l)) 1 34 (when (not (is_integer l 38 2)) 38) (omega arith) (omega arith)
      (when-rising (not (is_integer l 38 2)) 34 38 (omega arith) (omega arith))

  rise76 : Rising 126 1 (rule76 l)
  unfolding rule76
  rise76 =
      before-rising (no_value true (form_at (energy_at l 42))) 1 42 (when (no_value true (form_at (energy_at l 49))) 49)
      (omega arith) (omega arith)
      (when-rising (no_value true (form_at (energy_at l 49))) 42 49 (omega arith) (omega arith))

  rise77 : Rising 126 1 (rule77 l)
  unfolding rule77
  rise77 = when-rising (not (good_date l)) 1 80 (omega arith) (omega arith)

  pub findings-rise : Sorted 77 126 70 (findings l)
  findings-rise =
      also (low 70 71 (omega arith)) rise71
      (also (low 71 72 (omega arith)) rise72
      (also (low 72 73 (omega arith)) rise73
      (also (low 73 74 (omega arith)) rise74
      (also (low 74 75 (omega arith)) rise75
      (also (low 75 76 (omega arith)) rise76
      (also (low 76 77 (omega arith)) rise77 (no_more {a = 77} (omega arith))))))))
    where
      low : (a b : ℕ) → a < b → a < b
      low a b h = h
