use Rattle.paper_reasons.specs.Reason.{end_facts}
use borrow.Author.Tests.{eq-eqb, ne_eqb}
use mathlib.Core.Path.{refl}
use Rattle.reasons_counts.proofs.counts.end_facts.Goals as goal

pub returns-then-n-due : goal.returns-then-n-due
unfolding end_facts
returns-then-n-due c = rw (← c.true_count-due.ensures, ne_eqb _ _ c.if-n-due.true) refl

pub returns-else-n-due : goal.returns-else-n-due
unfolding end_facts
returns-else-n-due c = rw (← c.true_count-due.ensures, eq-eqb _ _ c.if-n-due.false, c.from.ensures) refl
