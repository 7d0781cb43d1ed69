use borrow.Author.Tests.{eq-eqb, ne_eqb}
use mathlib.Core.Path.{refl}
use Rattle.paper_decay.specs.Scan.{digits_step}
use Rattle.decay_nuclide.proofs.nuclide.in_digits.Goals as goal

pub returns-then-n-ne0 : goal.returns-then-n-ne0
unfolding digits_step
returns-then-n-ne0 c = rw (c.head.ensures, ← c.digits_next-n.ensures, ne_eqb _ _ c.if-n-ne0.true) refl

pub returns-then-count-eq0 : goal.returns-then-count-eq0
unfolding digits_step
returns-then-count-eq0 c = rw (c.nowhere.ensures, ← c.digits_next-n.ensures, eq-eqb _ _ c.if-n-ne0.false, eq-eqb _ _ c.if-count-eq0.true) refl

pub returns : goal.returns
unfolding digits_step
returns c = rw (c.to_if.ensures, c.head-2.ensures, ← c.digits_next-n.ensures, eq-eqb _ _ c.if-n-ne0.false, ne_eqb _ _ c.if-count-eq0.false) refl
