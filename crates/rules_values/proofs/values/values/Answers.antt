use Rattle.paper_rules.specs.Values.{values_for}
use Rattle.rules_values.proofs.values.values.Goals as goal

pub returns-then-not-is_value : goal.returns-then-not-is_value
unfolding values_for
returns-then-not-is_value c = rw (← c.is_value.ensures, c.if-not-is_value.true)

pub returns : goal.returns
unfolding values_for
returns c =
    rw (
      ← c.is_value.ensures,
      c.if-not-is_value.false,
      ← c.used.ensures.value,
    ) c.values_of.ensures
