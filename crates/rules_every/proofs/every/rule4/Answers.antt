use Rattle.paper_rules.specs.Every.{rule4}
use borrow.Author.Tests.{eq-eqb, ne_eqb}
use Rattle.rules_every.proofs.every.rule4.Goals as goal

pub returns-then-role-eq-NOT_DUE : goal.returns-then-role-eq-NOT_DUE
unfolding rule4
returns-then-role-eq-NOT_DUE c = rw (eq-eqb _ _ c.if-role-eq-NOT_DUE.true)

pub returns : goal.returns
unfolding rule4
returns c = rw (ne_eqb _ _ c.if-role-eq-NOT_DUE.false)
