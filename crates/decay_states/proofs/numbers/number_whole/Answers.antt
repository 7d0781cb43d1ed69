use borrow.Author.Tests.{eq-eqb, ne_eqb}
use mathlib.Core.Path.{refl}
use Rattle.paper_decay.specs.Scan.{number_whole}
use Rattle.decay_states.proofs.numbers.number_whole.Goals as goal

pub returns-then-inner-eq4 : goal.returns-then-inner-eq4
unfolding number_whole
returns-then-inner-eq4 c = rw (eq-eqb _ _ c.if-inner-eq4.true) refl

pub returns : goal.returns
unfolding number_whole
returns c = rw (ne_eqb _ _ c.if-inner-eq4.false) refl
