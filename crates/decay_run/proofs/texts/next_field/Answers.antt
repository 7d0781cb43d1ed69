use mathlib.Core.Path.{refl}
use native.Mathlib.Omega.{arith}
use borrow.Author.Tests.{eq-eqb, ne_eqb}
use Rattle.decay_run.proofs.texts.next_field.Goals as goal

pub returns-then-place-eq4 : goal.returns-then-place-eq4
returns-then-place-eq4 c = (rw (eq-eqb _ _ c.if-place-eq4.true) refl, omega arith)

pub returns : goal.returns
returns c = (rw (ne_eqb _ _ c.if-place-eq4.false) refl, omega (arith, c.if-place-eq4.false))
