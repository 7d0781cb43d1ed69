use borrow.Author.Tests.{eq-eqb, ne_eqb}
use mathlib.Core.Path.{refl}
use Rattle.decay_nuclide.proofs.nuclide.first_digit.Goals as goal

pub returns-then-n-eq0 : goal.returns-then-n-eq0
returns-then-n-eq0 c = rw (c.nowhere.ensures, ← c.digits_next-n.ensures, eq-eqb _ _ c.if-n-eq0.true) refl

pub returns : goal.returns
returns c = rw (c.head.ensures, ← c.digits_next-n.ensures, ne_eqb _ _ c.if-n-eq0.false) refl
