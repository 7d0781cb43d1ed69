use Rattle.paper_rules.specs.System.{in_form}
use borrow.Author.Tests.{eq-eqb, ne_eqb}
use Rattle.rules_system.proofs.system.in_form.Goals as goal

pub returns-then-form-eq-ENTRY_N1 : goal.returns-then-form-eq-ENTRY_N1
unfolding in_form
returns-then-form-eq-ENTRY_N1 c = rw (eq-eqb _ _ c.if-form-eq-ENTRY_N1.true) c.is_entry_n1.ensures

pub returns-then-form-eq-SUBENT_N1 : goal.returns-then-form-eq-SUBENT_N1
unfolding in_form
returns-then-form-eq-SUBENT_N1 c =
    rw (ne_eqb _ _ c.if-form-eq-ENTRY_N1.false, eq-eqb _ _ c.if-form-eq-SUBENT_N1.true) c.is_subent_n1.ensures

pub returns-then-form-eq-DATE : goal.returns-then-form-eq-DATE
unfolding in_form
returns-then-form-eq-DATE c =
    rw (
      ne_eqb _ _ c.if-form-eq-ENTRY_N1.false,
      ne_eqb _ _ c.if-form-eq-SUBENT_N1.false,
      eq-eqb _ _
          c.if-form-eq-DATE.true,
    ) c.is_date.ensures

pub returns-then-form-eq-COUNT : goal.returns-then-form-eq-COUNT
unfolding in_form
returns-then-form-eq-COUNT c =
    rw (
      ne_eqb _ _ c.if-form-eq-ENTRY_N1.false,
      ne_eqb _ _
          c.if-form-eq-SUBENT_N1.false,
      ne_eqb _ _ c.if-form-eq-DATE.false,
      eq-eqb _ _
          c.if-form-eq-COUNT.true,
      ← c.count_of.ensures.value,
    ) c.is_count.ensures

pub returns : goal.returns
unfolding in_form
returns c =
    rw (
      ne_eqb _ _ c.if-form-eq-ENTRY_N1.false,
      ne_eqb _ _ c.if-form-eq-SUBENT_N1.false,
      ne_eqb _ _
          c.if-form-eq-DATE.false,
      ne_eqb _ _ c.if-form-eq-COUNT.false,
    )
