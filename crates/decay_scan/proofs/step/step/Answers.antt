use borrow.Author.Tests.{eq-eqb, ne_eqb}
use mathlib.Core.Path.{refl}
use Rattle.paper_decay.specs.Scan.{step_of}
use Rattle.decay_scan.proofs.step.step.Goals as goal

pub returns-then-b-eq44 : goal.returns-then-b-eq44
unfolding step_of
returns-then-b-eq44 c = rw (c.comma.ensures, eq-eqb _ _ c.if-b-eq44.true) refl

pub returns-then-b-eq41 : goal.returns-then-b-eq41
unfolding step_of
returns-then-b-eq41 c = rw (c.close.ensures, ne_eqb _ _ c.if-b-eq44.false, eq-eqb _ _ c.if-b-eq41.true) refl

pub returns : goal.returns
unfolding step_of
returns c = rw (c.inside.ensures, ne_eqb _ _ c.if-b-eq44.false, ne_eqb _ _ c.if-b-eq41.false) refl
