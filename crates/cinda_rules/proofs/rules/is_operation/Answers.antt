use Rattle.paper_cinda.specs.Rules.{is_operation}
use borrow.Author.Tests.{eq-eqb, ne_eqb}
use mathlib.Core.Path.{refl}
use Rattle.cinda_rules.proofs.rules.is_operation.Goals as goal

pub returns-then-b-eq65 : goal.returns-then-b-eq65
unfolding is_operation
returns-then-b-eq65 c = rw (eq-eqb _ _ c.if-b-eq65.true) refl

pub returns-then-b-eq68 : goal.returns-then-b-eq68
unfolding is_operation
returns-then-b-eq68 c = rw (ne_eqb _ _ c.if-b-eq65.false, eq-eqb _ _ c.if-b-eq68.true) refl

pub returns : goal.returns
unfolding is_operation
returns c = rw (ne_eqb _ _ c.if-b-eq65.false, ne_eqb _ _ c.if-b-eq68.false) refl
