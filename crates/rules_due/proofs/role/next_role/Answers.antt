use borrow.Author.Tests.{eq-eqb, ne_eqb}
use Rattle.rules_due.proofs.role.next_role.Goals as goal

pub returns-then-k-eq-SUBENT : goal.returns-then-k-eq-SUBENT
returns-then-k-eq-SUBENT c = rw (eq-eqb _ _ c.if-k-eq-SUBENT.true)

pub returns : goal.returns
returns c = rw (ne_eqb _ _ c.if-k-eq-SUBENT.false) c.either.ensures
