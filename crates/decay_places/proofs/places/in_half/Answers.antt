use borrow.Author.Tests.{eq-eqb, ne_eqb}
use mathlib.Core.Path.{refl}
use Rattle.paper_decay.specs.Scan.{half_step}
use Rattle.decay_places.proofs.places.in_half.Goals as goal

pub returns-then-inner-eq12 : goal.returns-then-inner-eq12
unfolding half_step
returns-then-inner-eq12 c = rw (c.in_unit.ensures, eq-eqb _ _ c.if-inner-eq12.true) refl

pub returns-then-inner-eq11 : goal.returns-then-inner-eq11
unfolding half_step
returns-then-inner-eq11 c = rw (c.in_mark.ensures, ne_eqb _ _ c.if-inner-eq12.false, eq-eqb _ _ c.if-inner-eq11.true) refl

pub returns : goal.returns
unfolding half_step
returns c = rw (c.in_half_number.ensures, ne_eqb _ _ c.if-inner-eq12.false, ne_eqb _ _ c.if-inner-eq11.false) refl
