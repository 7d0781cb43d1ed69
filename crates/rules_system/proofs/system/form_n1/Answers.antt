use Rattle.paper_rules.specs.System.{form_n1}
use borrow.Author.Tests.{eq-eqb, ne_eqb}
use Rattle.rules_system.proofs.system.form_n1.Goals as goal

pub returns-then-role-eq-ENTRY : goal.returns-then-role-eq-ENTRY
unfolding form_n1
returns-then-role-eq-ENTRY c = rw (eq-eqb _ _ c.if-role-eq-ENTRY.true)

pub returns-then-opens_subentry : goal.returns-then-opens_subentry
unfolding form_n1
returns-then-opens_subentry c = rw (ne_eqb _ _ c.if-role-eq-ENTRY.false, ← c.opens_subentry.ensures, c.if-opens_subentry.true)

pub returns-then-opens_section : goal.returns-then-opens_section
unfolding form_n1
returns-then-opens_section c =
    rw (
      ne_eqb _ _ c.if-role-eq-ENTRY.false,
      ← c.opens_subentry.ensures,
      c.if-opens_subentry.false,
      ← c.opens_section.ensures,
      c.if-opens_section.true,
    )

pub returns-then-is_end : goal.returns-then-is_end
unfolding form_n1
returns-then-is_end c =
    rw (
      ne_eqb _ _ c.if-role-eq-ENTRY.false,
      ← c.opens_subentry.ensures,
      c.if-opens_subentry.false,
      ← c.opens_section.ensures,
      c.if-opens_section.false,
      ← c.is_end.ensures,
      c.if-is_end.true,
    )

pub returns : goal.returns
unfolding form_n1
returns c =
    rw (
      ne_eqb _ _ c.if-role-eq-ENTRY.false,
      ← c.opens_subentry.ensures,
      c.if-opens_subentry.false,
      ← c.opens_section.ensures,
      c.if-opens_section.false,
      ← c.is_end.ensures,
      c.if-is_end.false,
    )
