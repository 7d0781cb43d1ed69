use borrow.Author.Tests.{eq-eqb, ne_eqb}
use Rattle.rules_counts.proofs.counts.keywords_true.Goals as goal

pub returns-then-role-ne-ENDBIB : goal.returns-then-role-ne-ENDBIB
returns-then-role-ne-ENDBIB c = rw (ne_eqb _ _ c.if-role-ne-ENDBIB.true)

pub returns : goal.returns
returns c = rw (eq-eqb _ _ c.if-role-ne-ENDBIB.false)
