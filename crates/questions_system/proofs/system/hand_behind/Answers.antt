use Rattle.system_records.specs.Next.{hand_behind}
use mathlib.Core.Path.{refl}
use Rattle.questions_system.proofs.system.hand_behind.Goals as goal

pub returns-then-not-opens_subentry : goal.returns-then-not-opens_subentry
unfolding hand_behind
returns-then-not-opens_subentry c = rw (← c.opens_subentry.ensures, c.if-not-opens_subentry.true) refl

pub returns : goal.returns
unfolding hand_behind
returns c =
    rw (
      ← c.opens_subentry.ensures,
      c.if-not-opens_subentry.false,
      ← c.field_at-a.ensures,
    ) c.subentry_of.ensures.value
