-- A value comes back from its eight numbers.
-- Assumes nothing.
use mathlib.Core.Path.{◌≡◌, refl}
use mathlib.Core.Bool.{Bool, true, false}
use Prim.Native.Nat.{ℕ}
use lib.Dec.{eqb}
use lib.IntN.{pos, neg_ℤ}
use lib.Signed.{◌≤ℤ◌}
use Rattle.paper_number.specs.declared.types.Decimal.{Decimal}
use Rattle.paper_number.specs.declared.types.Reading.TheVariants.{Number}
use Rattle.exports_values.specs.Values.{bit, value_numbers, value_in}
use Rattle.exports_values.proofs.Twos.{twos_back}

bit-back : (b : Bool) → eqb (bit b) 1 ≡ b
bit-back true = refl
bit-back false = refl

-- whatever is counted beside it
pub numbers-back : (v : Decimal) (digits : ℕ) → neg_ℤ (pos 100000000) ≤ℤ v.power → v.power ≤ℤ pos 99999999
    → value_in (value_numbers v digits) ≡ Number v
unfolding value_numbers
numbers-back v digits low high = rw (bit-back v.negative, twos_back v.power low high) refl
