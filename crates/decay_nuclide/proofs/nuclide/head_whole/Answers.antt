use borrow.Author.Tests.{eq-eqb, ne_eqb}
use mathlib.Core.Path.{refl}
use Rattle.paper_decay.specs.Scan.{head_whole}
use Rattle.decay_nuclide.proofs.nuclide.head_whole.Goals as goal

pub returns-then-inner-eq7 : goal.returns-then-inner-eq7
unfolding head_whole
returns-then-inner-eq7 c = rw (eq-eqb _ _ c.if-inner-eq7.true) refl

pub returns-then-inner-eq9 : goal.returns-then-inner-eq9
unfolding head_whole
returns-then-inner-eq9 c = rw (ne_eqb _ _ c.if-inner-eq7.false, eq-eqb _ _ c.if-inner-eq9.true) refl

pub returns : goal.returns
unfolding head_whole
returns c = rw (ne_eqb _ _ c.if-inner-eq7.false, ne_eqb _ _ c.if-inner-eq9.false) refl
