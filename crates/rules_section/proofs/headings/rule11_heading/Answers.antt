use Rattle.paper_faults.proofs.Leftmost.{leftmost-where}
use Rattle.paper_rules.specs.Headings.{rule11_heading}
use Rattle.rules_section.proofs.headings.rule11_heading.Goals as goal

pub returns-then-not-is_heading : goal.returns-then-not-is_heading
returns-then-not-is_heading c =
    rw (
      ← c.is_heading.ensures,
      c.if-not-is_heading.true,
    )

pub returns : goal.returns
unfolding rule11_heading
returns c =
    rw (
      ← c.is_heading.ensures,
      c.if-not-is_heading.false,
      leftmost-where,
      ← c.used.ensures.value,
      ← c.pointer_fault.ensures,
    ) c.pointer_column.ensures
