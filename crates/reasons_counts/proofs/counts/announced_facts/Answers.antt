use Rattle.paper_reasons.specs.Reason.{announced_facts}
use Rattle.reasons_counts.proofs.RoundedUp.{count-up}
use borrow.Author.Tests.{eq-eqb, ne_eqb}
use Rattle.reasons_counts.proofs.counts.announced_facts.Goals as goal

pub returns-then-column-eq12 : goal.returns-then-column-eq12
unfolding announced_facts
returns-then-column-eq12 c = rw (eq-eqb _ _ c.if-column-eq12.true, ← c.limit_n1.ensures) c.limits_of.ensures

pub returns-then-role-eq-COMMON : goal.returns-then-role-eq-COMMON
unfolding announced_facts
returns-then-role-eq-COMMON c = rw (ne_eqb _ _ c.if-column-eq12.false, eq-eqb _ _ c.if-role-eq-COMMON.true) (count-up _ _)

pub limit_n2-requires : goal.limit_n2-requires
limit_n2-requires c = record { columns = λ e. absurd (c.if-role-eq-COMMON.false e) }

pub returns-else-role-eq-COMMON : goal.returns-else-role-eq-COMMON
unfolding announced_facts
returns-else-role-eq-COMMON c =
    rw (
      ne_eqb _ _ c.if-column-eq12.false,
      ne_eqb _ _ c.if-role-eq-COMMON.false,
      ← c.limit_n2.ensures,
    ) c.limits_of-else-role-eq-COMMON.ensures
