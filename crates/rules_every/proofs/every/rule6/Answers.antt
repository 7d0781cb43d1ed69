use Rattle.paper_rules.specs.Every.{rule6}
use Rattle.rules_every.proofs.every.rule6.Goals as goal

pub returns-then-same_five : goal.returns-then-same_five
unfolding rule6
returns-then-same_five c =
    rw (
      ← c.sequence-own.ensures,
      ← c.expected_sequence.ensures,
      ← c.five_digits-due.ensures,
      ← c.same_five.ensures,
      c.if-same_five.true,
    )

pub returns : goal.returns
unfolding rule6
returns c =
    rw (
      ← c.sequence-own.ensures,
      ← c.expected_sequence.ensures,
      ← c.five_digits-due.ensures,
      ← c.same_five.ensures,
      c.if-same_five.false,
    )
