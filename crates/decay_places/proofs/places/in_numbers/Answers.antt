use borrow.Author.Tests.{eq-eqb, ne_eqb}
use mathlib.Core.Path.{refl}
use Rattle.paper_decay.specs.Scan.{numbers_step}
use Rattle.decay_places.proofs.places.in_numbers.Goals as goal

pub returns-then-place-eq3 : goal.returns-then-place-eq3
unfolding numbers_step
returns-then-place-eq3 c = rw (c.to_if.ensures, c.standing.ensures, c.number_whole.ensures, eq-eqb _ _ c.if-b-eq47.true, eq-eqb _ _ c.if-place-eq3.true) refl

pub returns-then-b-eq47 : goal.returns-then-b-eq47
unfolding numbers_step
returns-then-b-eq47 c = rw (c.nowhere.ensures, eq-eqb _ _ c.if-b-eq47.true, ne_eqb _ _ c.if-place-eq3.false) refl

pub returns : goal.returns
unfolding numbers_step
returns c = rw (c.number_more.ensures, ← c.number_next-n.ensures, ne_eqb _ _ c.if-b-eq47.false) refl
