use mathlib.Core.Path.{refl}
use borrow.Author.Tests.{eq-eqb, ne_eqb}
use Rattle.decay_code.proofs.opening.left_behind.Goals as goal

pub returns-then-b-eq40 : goal.returns-then-b-eq40
returns-then-b-eq40 c = rw (eq-eqb _ _ c.if-b-eq40.true) refl

pub returns-else-b-eq40 : goal.returns-else-b-eq40
returns-else-b-eq40 c = rw (ne_eqb _ _ c.if-b-eq40.false) refl
