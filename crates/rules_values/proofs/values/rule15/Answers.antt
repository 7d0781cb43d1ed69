use Rattle.paper_faults.proofs.Leftmost.{leftmost-where}
use Rattle.paper_rules.proofs.ReadValues.{fault-read}
use Rattle.paper_rules.specs.Values.{rule15}
use mathlib.Core.Path.{◌∙◌, sym}
use Rattle.rules_values.proofs.values.rule15.Goals as goal

pub returns-then-not-is_value : goal.returns-then-not-is_value
returns-then-not-is_value c = rw (← c.is_value.ensures, c.if-not-is_value.true)

pub returns-then-line_blank : goal.returns-then-line_blank
unfolding rule15
returns-then-line_blank c =
    rw (
      ← c.is_value.ensures,
      c.if-not-is_value.false,
      ← c.line_blank.ensures,
      c.if-line_blank.true,
    )

pub returns : goal.returns
unfolding rule15
returns c =
    rw (
      ← c.is_value.ensures,
      c.if-not-is_value.false,
      ← c.line_blank.ensures,
      c.if-line_blank.false,
      leftmost-where,
      ← fault-read _ _ _ _ c.requires
          (sym c.is_value.ensures
          ∙ c.if-not-is_value.false),
    )
    c.field_column.ensures
