use borrow.Author.Tests.{eq-eqb, ne_eqb, not-true, not-false}
use Rattle.rules_values.proofs.values.line_blank.Goals as goal

pub returns-then-role-ne-DATA_VALUE : goal.returns-then-role-ne-DATA_VALUE
returns-then-role-ne-DATA_VALUE c = rw (ne_eqb _ _ c.if-role-ne-DATA_VALUE.true)

pub returns-then-not-row_ends : goal.returns-then-not-row_ends
returns-then-not-row_ends c =
    rw (
      eq-eqb _ _ c.if-role-ne-DATA_VALUE.false,
      ← c.row_ends.ensures,
      c.if-not-row_ends.true,
    )

pub returns-then-not-t : goal.returns-then-not-t
returns-then-not-t c =
    rw (
      eq-eqb _ _ c.if-role-ne-DATA_VALUE.false,
      ← c.row_ends.ensures,
      c.if-not-row_ends.false,
      not-true c.args.track.table.blank c.if-not-t.true,
    )

pub returns : goal.returns
returns c =
    rw (
      ← c.used.ensures.value,
      eq-eqb _ _
          c.if-role-ne-DATA_VALUE.false,
      ← c.row_ends.ensures,
      c.if-not-row_ends.false,
      not-false c.args.track.table.blank c.if-not-t.false,
    ) c.blank_fields.ensures
