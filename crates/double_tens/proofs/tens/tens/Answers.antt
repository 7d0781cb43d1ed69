use mathlib.Core.Path.{refl}
use lib.Ieee.{of_bits, of_int}
use Rattle.paper_double.specs.Table.{tens, tens_from}
use Rattle.double_tens.proofs.tens.tens.Goals as goal

-- the 23 literals are the doubles of the powers of ten: computed
pub returns : goal.returns
unfolding of_bits tens tens_from of_int
returns c = refl
