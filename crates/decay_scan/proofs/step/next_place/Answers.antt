use borrow.Author.Tests.{eq-eqb, ne_eqb}
use mathlib.Core.Path.{refl}
use Rattle.paper_decay.specs.Scan.{next_place}
use Rattle.decay_scan.proofs.step.next_place.Goals as goal

pub returns-then-place-eq0 : goal.returns-then-place-eq0
unfolding next_place
returns-then-place-eq0 c = rw (c.fresh.ensures, eq-eqb _ _ c.if-place-eq0.true) refl

pub returns-then-place-eq1 : goal.returns-then-place-eq1
unfolding next_place
returns-then-place-eq1 c = rw (c.fresh-then-place-eq1.ensures, ne_eqb _ _ c.if-place-eq0.false, eq-eqb _ _ c.if-place-eq1.true) refl

pub returns-then-place-eq2 : goal.returns-then-place-eq2
unfolding next_place
returns-then-place-eq2 c = rw (c.fresh-then-place-eq2.ensures, ne_eqb _ _ c.if-place-eq0.false, ne_eqb _ _ c.if-place-eq1.false, eq-eqb _ _ c.if-place-eq2.true) refl

pub returns-then-place-eq3 : goal.returns-then-place-eq3
unfolding next_place
returns-then-place-eq3 c = rw (c.fresh-then-place-eq3.ensures, ne_eqb _ _ c.if-place-eq0.false, ne_eqb _ _ c.if-place-eq1.false, ne_eqb _ _ c.if-place-eq2.false, eq-eqb _ _ c.if-place-eq3.true) refl

pub returns-then-place-eq4 : goal.returns-then-place-eq4
unfolding next_place
returns-then-place-eq4 c = rw (c.to_if.ensures, c.fresh-then-place-eq4.ensures, ne_eqb _ _ c.if-place-eq0.false, ne_eqb _ _ c.if-place-eq1.false, ne_eqb _ _ c.if-place-eq2.false, ne_eqb _ _ c.if-place-eq3.false, eq-eqb _ _ c.if-place-eq4.true) refl

pub returns : goal.returns
unfolding next_place
returns c = rw (c.nowhere.ensures, ne_eqb _ _ c.if-place-eq0.false, ne_eqb _ _ c.if-place-eq1.false, ne_eqb _ _ c.if-place-eq2.false, ne_eqb _ _ c.if-place-eq3.false, ne_eqb _ _ c.if-place-eq4.false) refl
