use borrow.Author.Tests.{eq-eqb, ne_eqb}
use mathlib.Core.Path.{refl}
use Rattle.paper_decay.specs.Scan.{before_nuclide}
use Rattle.decay_nuclide.proofs.nuclide.before_nuclide.Goals as goal

pub returns-then-b-eq32 : goal.returns-then-b-eq32
unfolding before_nuclide
returns-then-b-eq32 c = rw (c.head.ensures, eq-eqb _ _ c.if-b-eq32.true) refl

pub returns : goal.returns
unfolding before_nuclide
returns c = rw (c.first_digit.ensures, ne_eqb _ _ c.if-b-eq32.false) refl
