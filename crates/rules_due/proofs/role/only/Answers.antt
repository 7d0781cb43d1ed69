use borrow.Author.Tests.{eq-eqb, ne_eqb}
use Rattle.rules_due.proofs.role.only.Goals as goal

pub returns-then-k-a : goal.returns-then-k-a
returns-then-k-a c = rw (eq-eqb _ _ c.if-k-a.true)

pub returns : goal.returns
returns c = rw (ne_eqb _ _ c.if-k-a.false)
