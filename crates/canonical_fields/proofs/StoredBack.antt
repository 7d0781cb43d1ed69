-- A field of any width, written back in a place of a buffer.
-- Assumes nothing.
use Prim.Native.Nat.{ℕ, ◌+◌, ◌-◌, ◌≤◌}
use mathlib.Core.Path.{◌≡◌, ◌∙◌, ap}
use mathlib.Core.List.{List, ◌++◌}
use native.Mathlib.Omega.{arith}
use lib.ListN.{length, take, drop, length-drop}
use lib.Seq.{paste, length-take-le}
use Rattle.paper_number.specs.declared.types.Decimal.{Decimal}
use Rattle.paper_number.specs.declared.types.Reading.TheVariants.{Number}
use Rattle.paper_number.specs.Value.{value_of}
use Rattle.paper_number.specs.Reading.{read_field}
use Rattle.paper_canonical.specs.Replacing.{canonical}
use Rattle.paper_canonical.specs.Writing.{stored_field}
use Rattle.paper_canonical.proofs.WriteBack.{stored_back}
use Rattle.laws.proofs.Pasted.{paste-lent}

-- the value of a field, stored in its place
pub stored_there : (d f : List ℕ) (at : ℕ) (v : Decimal) → read_field f ≡ Number v → at + length f ≤ length d
    → stored_field (take (length f) (drop at d)) (value_of v.negative v.coefficient v.power) ≡ canonical f
stored_there d f at v e room =
    stored_back (take (length f) (drop at d)) f v e (length-take-le (length f) (drop at d) (simp length-drop (omega arith)))

-- n columns that were lent to the writer
pub lent-there : (d y new : List ℕ) (at n : ℕ) → at + n ≤ length d
    → y ≡ new → length y ≡ length (take (at + n - at) (drop at d))
    → take at d ++ (y ++ drop (at + n - at) (drop at d)) ≡ paste d at new n
lent-there d y new at n room e long =
    let k : at + n - at ≡ n = omega arith in
    let w : length (take n (drop at d)) ≡ n = length-take-le n (drop at d) (simp length-drop (omega arith)) in
    let z : length y ≡ n = rw k at long ∙ w in
    rw k (paste-lent d y at n z) ∙ ap (λ (x : List ℕ). paste d at x n) e
