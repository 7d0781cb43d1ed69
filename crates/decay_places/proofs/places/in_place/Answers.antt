use borrow.Author.Tests.{eq-eqb, ne_eqb}
use mathlib.Core.Path.{refl}
use Rattle.paper_decay.specs.Scan.{place_step}
use Rattle.decay_places.proofs.places.in_place.Goals as goal

pub returns-then-place-eq1 : goal.returns-then-place-eq1
unfolding place_step
returns-then-place-eq1 c = rw (c.in_half.ensures, eq-eqb _ _ c.if-place-eq1.true) refl

pub returns-then-place-eq2 : goal.returns-then-place-eq2
unfolding place_step
returns-then-place-eq2 c = rw (c.in_types.ensures, ne_eqb _ _ c.if-place-eq1.false, eq-eqb _ _ c.if-place-eq2.true) refl

pub returns : goal.returns
unfolding place_step
returns c = rw (c.in_numbers.ensures, ne_eqb _ _ c.if-place-eq1.false, ne_eqb _ _ c.if-place-eq2.false) refl
