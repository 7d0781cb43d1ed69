use Rattle.paper_faults.proofs.Leftmost.{leftmost-where}
use Rattle.paper_rules.specs.Pointers.{rule14}
use borrow.Author.Tests.{eq-eqb, ne_eqb}
use Rattle.rules_pointers.proofs.pointers.rule14.Goals as goal

pub returns-then-role-ne-DATA_HEADING : goal.returns-then-role-ne-DATA_HEADING
returns-then-role-ne-DATA_HEADING c = rw (ne_eqb _ _ c.if-role-ne-DATA_HEADING.true)

pub returns : goal.returns
unfolding rule14
returns c =
    rw (
      eq-eqb _ _
          c.if-role-ne-DATA_HEADING.false,
      leftmost-where,
      ← c.used-n.ensures.value,
      ← c.part.ensures,
      ← c.part-2.ensures,
      ← c.part-3.ensures,
      ← c.part-4.ensures,
      ← c.lost_at-k.ensures,
    )
    c.field_column.ensures
