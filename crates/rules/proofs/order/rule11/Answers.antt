use borrow.Author.Tests.{eq-eqb, ne_eqb}
use Rattle.rules.proofs.order.rule11.Goals as goal

pub returns-then-role-eq-TEXT : goal.returns-then-role-eq-TEXT
returns-then-role-eq-TEXT c = rw (eq-eqb _ _ c.if-role-eq-TEXT.true) c.rule11_text.ensures

pub returns : goal.returns
returns c = rw (ne_eqb _ _ c.if-role-eq-TEXT.false) c.rule11_heading.ensures
