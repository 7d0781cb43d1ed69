use mathlib.Core.Path.{refl}
use borrow.Author.Tests.{eq-eqb, ne_eqb}
use Rattle.paper_decay_fields.specs.Asked.{goes_to}
use Rattle.decay_fields.proofs.code.goes_to.Goals as goal

pub returns-then-place-eq5 : goal.returns-then-place-eq5
unfolding goes_to
returns-then-place-eq5 c = rw (← c.read_run-stop.ensures.0, eq-eqb _ _ c.if-place-eq5.true) refl

pub returns : goal.returns
unfolding goes_to
returns c = rw (← c.read_run-stop.ensures.0, ne_eqb _ _ c.if-place-eq5.false) refl
