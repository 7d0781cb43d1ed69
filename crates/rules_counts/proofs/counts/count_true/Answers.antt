use borrow.Author.Tests.{eq-eqb, ne_eqb}
use Rattle.rules_counts.proofs.counts.count_true.Goals as goal

pub returns-then-n-due : goal.returns-then-n-due
returns-then-n-due c = rw (← c.true_count-due.ensures, ne_eqb _ _ c.if-n-due.true)

pub returns : goal.returns
returns c =
    rw (← c.true_count-due.ensures, eq-eqb _ _ c.if-n-due.false) c.keywords_true.ensures
