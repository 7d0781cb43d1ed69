use mathlib.Core.Path.{refl}
use borrow.Author.Tests.{eq-eqb, ne_eqb}
use Rattle.exports_fields.specs.Groups.{is_empty, group_word}
use Rattle.exports_fields.proofs.groups.group_word.Goals as goal

pub returns-then-g-ne0 : goal.returns-then-g-ne0
unfolding group_word is_empty
returns-then-g-ne0 c = rw (ne_eqb _ _ c.if-g-ne0.true) refl

pub returns-then-g-ne0-2 : goal.returns-then-g-ne0-2
unfolding group_word is_empty
returns-then-g-ne0-2 c = rw (eq-eqb _ _ c.if-g-ne0.false, ne_eqb _ _ c.if-g-ne0-2.true) refl

pub returns-then-g-ne0-3 : goal.returns-then-g-ne0-3
unfolding group_word is_empty
returns-then-g-ne0-3 c =
    rw (
      eq-eqb _ _ c.if-g-ne0.false,
      eq-eqb _ _ c.if-g-ne0-2.false,
      ne_eqb _ _ c.if-g-ne0-3.true,
    ) refl

pub returns : goal.returns
unfolding group_word is_empty
returns c =
    rw (
      eq-eqb _ _ c.if-g-ne0.false,
      eq-eqb _ _ c.if-g-ne0-2.false,
      eq-eqb _ _ c.if-g-ne0-3.false,
    ) refl
