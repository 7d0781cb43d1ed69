use Rattle.paper_rules.specs.Counts.{rule8}
use Rattle.rules_counts.proofs.counts.rule8.Goals as goal

pub returns-then-not-is_system : goal.returns-then-not-is_system
returns-then-not-is_system c = rw (← c.is_system.ensures, c.if-not-is_system.true)

pub returns-then-opens_section : goal.returns-then-opens_section
unfolding rule8
returns-then-opens_section c =
    rw (
      ← c.is_system.ensures,
      c.if-not-is_system.false,
      ← c.opens_section.ensures,
      c.if-opens_section.true,
      ← c.count_of.ensures.value,
      ← c.number_of-a.ensures,
      ← c.count_of-then-opens_section.ensures.value,
      ← c.number_of-b.ensures,
    ) c.announced.ensures

pub returns-then-not-is_end : goal.returns-then-not-is_end
unfolding rule8
returns-then-not-is_end c =
    rw (
      ← c.is_system.ensures,
      c.if-not-is_system.false,
      ← c.opens_section.ensures,
      c.if-opens_section.false,
      ← c.is_end.ensures,
      c.if-not-is_end.true,
    )

pub returns-then-count_true : goal.returns-then-count_true
unfolding rule8
returns-then-count_true c =
    rw (
      ← c.is_system.ensures,
      c.if-not-is_system.false,
      ← c.opens_section.ensures,
      c.if-opens_section.false,
      ← c.is_end.ensures,
      c.if-not-is_end.false,
      ← c.count_of.ensures.value,
      ← c.number_of-a.ensures,
      ← c.count_true.ensures,
      c.if-count_true.true,
    )

pub returns : goal.returns
unfolding rule8
returns c =
    rw (
      ← c.is_system.ensures,
      c.if-not-is_system.false,
      ← c.opens_section.ensures,
      c.if-opens_section.false,
      ← c.is_end.ensures,
      c.if-not-is_end.false,
      ← c.count_of.ensures.value,
      ← c.number_of-a.ensures,
      ← c.count_true.ensures,
      c.if-count_true.false,
    )
