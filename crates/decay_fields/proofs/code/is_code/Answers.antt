use mathlib.Core.Path.{refl}
use borrow.Author.Tests.{eq-eqb, ne_eqb}
use Rattle.paper_decay_fields.specs.Asked.{is_code}
use Rattle.decay_fields.proofs.code.is_code.Goals as goal

pub returns-then-place-ne5 : goal.returns-then-place-ne5
unfolding is_code
returns-then-place-ne5 c = rw (← c.read_run-stop.ensures.0, ne_eqb _ _ c.if-place-ne5.true) refl

pub returns : goal.returns
unfolding is_code
returns c = rw (← c.read_run-stop.ensures.0, eq-eqb _ _ c.if-place-ne5.false) refl
