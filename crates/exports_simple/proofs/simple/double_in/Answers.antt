use mathlib.Core.Path.{refl}
use lib.Ieee.{of_bits}
use Rattle.exports_simple.proofs.simple.double_in.Goals as goal

pub returns-in-Blank : goal.returns-in-Blank
unfolding of_bits
returns-in-Blank c = rw c.in-Blank.is refl

pub returns-in-Outside : goal.returns-in-Outside
unfolding of_bits
returns-in-Outside c = rw c.in-Outside.is refl
