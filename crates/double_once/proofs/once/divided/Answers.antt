use mathlib.Core.Path.{refl}
use native.Mathlib.Omega.{arith}
use Prim.Native.Nat.{◌^◌}
use lib.Dec.{le→leb}
use lib.Ieee.{in_float}
use Rattle.paper_double.specs.Double.{divided}
use Rattle.paper_double.proofs.Table.{tens-at}
use Rattle.double_once.proofs.once.divided.Goals as goal

-- the coefficient has ten digits at most, so the cast loses nothing
pub int_to_float-x : goal.int_to_float-x
unfolding in_float
int_to_float-x c = le→leb c.args.c (2 ^ 53) (omega (arith, c.requires.c_bound))

pub returns : goal.returns
unfolding divided
returns c = rw (c.requires.tens_lent.same, tens-at c.args.k c.requires.k_bound) refl
