use Rattle.paper_rules.specs.Role.{data_role}
use borrow.Author.Tests.{eq-eqb, ne_eqb}
use Rattle.rules_due.proofs.role.data_role.Goals as goal

pub returns-then-s-eq1 : goal.returns-then-s-eq1
unfolding data_role
returns-then-s-eq1 c = rw (eq-eqb _ _ c.if-s-eq1.true) c.only.ensures

pub returns : goal.returns
unfolding data_role
returns c = rw (ne_eqb _ _ c.if-s-eq1.false) c.either.ensures
