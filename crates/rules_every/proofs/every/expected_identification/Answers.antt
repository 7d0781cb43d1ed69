use Rattle.paper_rules.specs.Every.{expected_identification}
use borrow.Author.Tests.{eq-eqb, ne_eqb}
use Rattle.rules_every.proofs.every.expected_identification.Goals as goal

pub returns-then-role-eq-ENTRY : goal.returns-then-role-eq-ENTRY
unfolding expected_identification
returns-then-role-eq-ENTRY c =
    rw (eq-eqb _ _ c.if-role-eq-ENTRY.true, ← c.entry_accession-own.ensures)
    c.identification_for.ensures

pub returns-then-opens_subentry : goal.returns-then-opens_subentry
unfolding expected_identification
returns-then-opens_subentry c =
    rw (
      ne_eqb _ _ c.if-role-eq-ENTRY.false,
      ← c.opens_subentry.ensures,
      c.if-opens_subentry.true,
    ) c.subent_identification.ensures

pub returns-then-role-eq-ENDENTRY : goal.returns-then-role-eq-ENDENTRY
unfolding expected_identification
returns-then-role-eq-ENDENTRY c =
    rw (
      ne_eqb _ _ c.if-role-eq-ENTRY.false,
      ← c.opens_subentry.ensures,
      c.if-opens_subentry.false,
      eq-eqb _ _ c.if-role-eq-ENDENTRY.true,
    ) c.identification_for-then-role-eq-ENDENTRY.ensures

pub returns : goal.returns
unfolding expected_identification
returns c =
    rw (
      ne_eqb _ _ c.if-role-eq-ENTRY.false,
      ← c.opens_subentry.ensures,
      c.if-opens_subentry.false,
      ne_eqb _ _
          c.if-role-eq-ENDENTRY.false,
    ) c.identification_for-2.ensures
