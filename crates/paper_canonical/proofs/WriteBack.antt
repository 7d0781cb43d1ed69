-- A value that a field has is written as its canonical field, and what a field becomes goes by what it reads to.
-- Assumes nothing.
use mathlib.Core.Path.{◌≡◌, refl}
use mathlib.Core.List.{List}
use Prim.Native.Nat.{ℕ}
use borrow.Author.Tests.{le-leb}
use lib.ListN.{length}
use Rattle.paper_number.specs.declared.types.Decimal.{Decimal}
use Rattle.paper_number.specs.declared.types.Reading.{Reading}
use Rattle.paper_number.specs.declared.types.Reading.TheVariants.{Number}
use Rattle.paper_number.specs.Value.{Normal, value_of}
use Rattle.paper_number.specs.Reading.{read_field}
use Rattle.paper_number.proofs.Laws.{value_found, value-one}
use Rattle.paper_canonical.specs.Replacing.{replaced_by, canonical}
use Rattle.paper_canonical.specs.Writing.{stored_field}
use Rattle.paper_canonical.proofs.Laws.{number-normal, number_fits}

-- a value in its normal form is the value of its own three parts
pub value-of-normal : (v : Decimal) → Normal v → value_of v.negative v.coefficient v.power ≡ v
value-of-normal v h =
    value-one _ _ _ _ _ (value_found v.negative v.coefficient v.power)
    (record { size = record { m = 0; n = 0; powers = refl; numbers = refl }; sign = λ z. refl; normal = h })

-- what is read in a field of any width is written back in as many columns
pub stored_back : (l f : List ℕ) (v : Decimal) → read_field f ≡ Number v → length l ≡ length f
    → stored_field l (value_of v.negative v.coefficient v.power) ≡ canonical f
unfolding stored_field canonical
stored_back l f v e w =
    rw (value-of-normal v (number-normal f v e), w, le-leb _ _ (number_fits f v e), e) refl

-- what a field becomes, by what it reads to
pub canonical-read : (f : List ℕ) (r : Reading) → read_field f ≡ r → canonical f ≡ replaced_by f r
unfolding canonical
canonical-read f r e = rw e
