use mathlib.Core.Path.{refl}
use borrow.Author.Tests.{eq-eqb, ne_eqb}
use Rattle.paper_decay_fields.specs.Parts.{or_none}
use Rattle.decay_parts.proofs.parts.or_none.Goals as goal

pub returns-then-p-eq0 : goal.returns-then-p-eq0
unfolding or_none
returns-then-p-eq0 c = rw (eq-eqb _ _ c.if-p-eq0.true) refl

pub returns : goal.returns
unfolding or_none
returns c = rw (ne_eqb _ _ c.if-p-eq0.false) refl
