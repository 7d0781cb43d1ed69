use Rattle.paper_reasons.specs.Reason.{count_facts}
use Rattle.reasons_facts.proofs.facts.count_facts.Goals as goal

pub returns-then-opens_section : goal.returns-then-opens_section
unfolding count_facts
returns-then-opens_section c = rw (
  ← c.opens_section.ensures,
  c.if-opens_section.true,
  ← c.count_of.ensures.value,
  ← c.number_of-a.ensures,
  ← c.count_of-then-opens_section.ensures.value,
  ← c.number_of-b.ensures,
) c.announced_facts.ensures

pub returns-else-opens_section : goal.returns-else-opens_section
unfolding count_facts
returns-else-opens_section c = rw (
  ← c.opens_section.ensures,
  c.if-opens_section.false,
  ← c.count_of.ensures.value,
  ← c.number_of-a.ensures,
) c.end_facts.ensures
