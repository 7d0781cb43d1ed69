use mathlib.Core.Path.{refl}
use Rattle.paper_rules.specs.Counts.{true_count}
use borrow.Author.Tests.{eq-eqb, ne_eqb}
use Rattle.rules_counts.proofs.counts.true_count.Goals as goal

pub returns-then-role-eq-ENDENTRY : goal.returns-then-role-eq-ENDENTRY
unfolding true_count
returns-then-role-eq-ENDENTRY c = rw (eq-eqb _ _ c.if-role-eq-ENDENTRY.true)

pub returns-then-role-eq-ENDSUBENT : goal.returns-then-role-eq-ENDSUBENT
unfolding true_count
returns-then-role-eq-ENDSUBENT c = rw (ne_eqb _ _ c.if-role-eq-ENDENTRY.false, eq-eqb _ _ c.if-role-eq-ENDSUBENT.true) refl

pub returns : goal.returns
unfolding true_count
returns c = rw (ne_eqb _ _ c.if-role-eq-ENDENTRY.false, ne_eqb _ _ c.if-role-eq-ENDSUBENT.false)
