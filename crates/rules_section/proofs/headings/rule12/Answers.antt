use Rattle.paper_faults.proofs.Leftmost.{leftmost-where}
use Rattle.paper_rules.specs.Headings.{rule12_heading, rule12_unit}
use Rattle.rules_section.proofs.headings.rule12.Goals as goal

pub returns-then-is_heading : goal.returns-then-is_heading
unfolding rule12_heading
returns-then-is_heading c =
    rw (
      ← c.is_heading.ensures,
      c.if-is_heading.true,
      leftmost-where,
      ← c.used.ensures.value,
      ← c.heading_fault.ensures,
    ) c.field_column.ensures

pub returns-then-is_unit : goal.returns-then-is_unit
unfolding rule12_unit
returns-then-is_unit c =
    rw (
      ← c.is_heading.ensures,
      c.if-is_heading.false,
      ← c.is_unit.ensures,
      c.if-is_unit.true,
      leftmost-where,
      ← c.used-then-is_unit.ensures.value,
      ← c.unit_fault.ensures,
    ) c.field_column-then-is_unit.ensures

pub returns-else-is_unit : goal.returns-else-is_unit
returns-else-is_unit c =
    rw (
      ← c.is_heading.ensures,
      c.if-is_heading.false,
      ← c.is_unit.ensures,
      c.if-is_unit.false,
    )
