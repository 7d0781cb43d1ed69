use Rattle.paper_rules.specs.Every.{rule5}
use Rattle.rules_every.proofs.every.rule5.Goals as goal

pub returns-then-same_identification : goal.returns-then-same_identification
unfolding rule5
returns-then-same_identification c =
    rw (
      ← c.identification-own.ensures,
      ← c.expected_identification-due.ensures,
      ← c.same_identification.ensures,
      c.if-same_identification.true,
    )

pub returns : goal.returns
unfolding rule5
returns c =
    rw (
      ← c.identification-own.ensures,
      ← c.expected_identification-due.ensures,
      ← c.same_identification.ensures,
      c.if-same_identification.false,
    )
