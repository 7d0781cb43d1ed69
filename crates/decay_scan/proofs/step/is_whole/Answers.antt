use borrow.Author.Tests.{eq-eqb, ne_eqb}
use mathlib.Core.Path.{refl}
use Rattle.paper_decay.specs.Scan.{is_whole}
use Rattle.decay_scan.proofs.step.is_whole.Goals as goal

pub returns-then-place-eq0 : goal.returns-then-place-eq0
unfolding is_whole
returns-then-place-eq0 c = rw (c.head_whole.ensures, eq-eqb _ _ c.if-place-eq0.true) refl

pub returns-then-place-eq1 : goal.returns-then-place-eq1
unfolding is_whole
returns-then-place-eq1 c = rw (ne_eqb _ _ c.if-place-eq0.false, eq-eqb _ _ c.if-place-eq1.true) refl

pub returns-then-place-eq2 : goal.returns-then-place-eq2
unfolding is_whole
returns-then-place-eq2 c = rw (ne_eqb _ _ c.if-place-eq0.false, ne_eqb _ _ c.if-place-eq1.false, eq-eqb _ _ c.if-place-eq2.true) refl

pub returns : goal.returns
unfolding is_whole
returns c = rw (c.number_whole.ensures, ne_eqb _ _ c.if-place-eq0.false, ne_eqb _ _ c.if-place-eq1.false, ne_eqb _ _ c.if-place-eq2.false) refl
