use Rattle.paper_rules.specs.Repeats.{left_of}
use borrow.Author.Tests.{eq-eqb, ne_eqb}
use mathlib.Core.Path.{refl}
use Rattle.rules_repeats.proofs.repeats.left_of.Goals as goal

pub returns-then-k-ne0 : goal.returns-then-k-ne0
unfolding left_of
returns-then-k-ne0 c = rw (ne_eqb _ _ c.if-k-ne0.true) refl

pub returns-then-n-eq0 : goal.returns-then-n-eq0
unfolding left_of
returns-then-n-eq0 c =
    rw (
      eq-eqb _ _ c.if-k-ne0.false,
      ← c.headings_in-n.ensures.value,
      eq-eqb _ _ c.if-n-eq0.true,
    ) refl

pub returns : goal.returns
unfolding left_of
returns c =
    rw (
      eq-eqb _ _ c.if-k-ne0.false,
      ← c.headings_in-n.ensures.value,
      ne_eqb _ _ c.if-n-eq0.false,
    ) c.field.ensures
