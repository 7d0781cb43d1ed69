use borrow.Author.Tests.{eq-eqb, ne_eqb}
use mathlib.Core.Path.{refl}
use Rattle.paper_decay.specs.Scan.{field_step}
use Rattle.decay_places.proofs.places.in_field.Goals as goal

pub returns-then-b-eq32 : goal.returns-then-b-eq32
unfolding field_step
returns-then-b-eq32 c = rw (c.to_if.ensures, c.is_empty.ensures, eq-eqb _ _ c.if-b-eq32.true) refl

pub returns : goal.returns
unfolding field_step
returns c = rw (c.in_place.ensures, ne_eqb _ _ c.if-b-eq32.false) refl
