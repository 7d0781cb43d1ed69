use mathlib.Core.Path.{refl}
use Rattle.paper_rules.specs.Every.{expected_sequence}
use borrow.Author.Tests.{eq-eqb, ne_eqb}
use Rattle.rules_every.proofs.every.expected_sequence.Goals as goal

pub returns-then-role-eq-ENTRY : goal.returns-then-role-eq-ENTRY
unfolding expected_sequence
returns-then-role-eq-ENTRY c = rw (eq-eqb _ _ c.if-role-eq-ENTRY.true)

pub returns-then-opens_subentry : goal.returns-then-opens_subentry
unfolding expected_sequence
returns-then-opens_subentry c = rw (ne_eqb _ _ c.if-role-eq-ENTRY.false, ← c.opens_subentry.ensures, c.if-opens_subentry.true)

pub returns-then-role-eq-ENDSUBENT : goal.returns-then-role-eq-ENDSUBENT
unfolding expected_sequence
returns-then-role-eq-ENDSUBENT c =
    rw (
      ne_eqb _ _ c.if-role-eq-ENTRY.false,
      ← c.opens_subentry.ensures,
      c.if-opens_subentry.false,
      eq-eqb _ _ c.if-role-eq-ENDSUBENT.true,
    )

pub returns-then-role-eq-ENDENTRY : goal.returns-then-role-eq-ENDENTRY
unfolding expected_sequence
returns-then-role-eq-ENDENTRY c =
    rw (
      ne_eqb _ _ c.if-role-eq-ENTRY.false,
      ← c.opens_subentry.ensures,
      c.if-opens_subentry.false,
      ne_eqb _ _ c.if-role-eq-ENDSUBENT.false,
      eq-eqb _ _ c.if-role-eq-ENDENTRY.true,
    )

pub returns : goal.returns
unfolding expected_sequence
returns c =
    rw (
      ne_eqb _ _ c.if-role-eq-ENTRY.false,
      ← c.opens_subentry.ensures,
      c.if-opens_subentry.false,
      ne_eqb _ _ c.if-role-eq-ENDSUBENT.false,
      ne_eqb _ _ c.if-role-eq-ENDENTRY.false,
    ) refl
