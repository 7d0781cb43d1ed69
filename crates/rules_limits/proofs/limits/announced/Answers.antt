use Rattle.rules_limits.proofs.FewColumns.{few-columns}
use Rattle.paper_rules.specs.Counts.{announced_fault}
use Rattle.rules_limits.proofs.limits.announced.Goals as goal

pub returns-then-not-meets : goal.returns-then-not-meets
unfolding announced_fault
returns-then-not-meets c =
    rw (
      ← c.limit_n1.ensures,
      ← c.meets.ensures,
      c.if-not-meets.true,
    )

pub limit_n2-requires : goal.limit_n2-requires
limit_n2-requires c =
    few-columns _ _ (rw (← c.limit_n1.ensures, ← c.meets.ensures)
    c.if-not-meets.false)

pub returns-then-not-meets-2 : goal.returns-then-not-meets-2
unfolding announced_fault
returns-then-not-meets-2 c =
    rw (
      ← c.limit_n1.ensures,
      ← c.meets.ensures,
      c.if-not-meets.false,
      ← c.limit_n2.ensures,
      ← c.meets-else-not-meets.ensures,
      c.if-not-meets-2.true,
    )

pub returns-else-not-meets-2 : goal.returns-else-not-meets-2
unfolding announced_fault
returns-else-not-meets-2 c =
    rw (
      ← c.limit_n1.ensures,
      ← c.meets.ensures,
      c.if-not-meets.false,
      ← c.limit_n2.ensures,
      ← c.meets-else-not-meets.ensures,
      c.if-not-meets-2.false,
    )
