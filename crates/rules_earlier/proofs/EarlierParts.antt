-- The headings to the left stand in the record in hand.
-- Assumes nothing.
use Prim.Native.Nat.{ℕ, ◌≤◌}
use mathlib.Core.Path.{◌≡◌, ◌∙◌, ap}
use mathlib.Core.List.{List}
use native.Mathlib.Omega.{arith}
use lib.ListN.{length}
use Rattle.paper_rules.specs.Earlier.{earlier, part_of, Left}

pub left-fits : (common001 common table here part : List ℕ) (left s : ℕ)
    → part ≡ part_of (earlier common001 common table here 0) s → length here ≡ 81 → left ≤ 6 → Left part left s
left-fits common001 common table here part left s p h l =
    record { few = λ z. let w : length part ≡ 81 = ap length (rw z at p) ∙ h in omega arith }
