use mathlib.Core.Path.{refl}
use Rattle.paper_rules.specs.System.{rule7}
use Rattle.rules_system.proofs.system.rule7.Goals as goal

pub returns-then-not-is_system : goal.returns-then-not-is_system
returns-then-not-is_system c = rw (← c.is_system.ensures, c.if-not-is_system.true)

pub returns-then-not-in_form : goal.returns-then-not-in_form
unfolding rule7
returns-then-not-in_form c =
    rw (
      ← c.is_system.ensures,
      c.if-not-is_system.false,
      ← c.form_n1.ensures,
      ← c.in_form.ensures,
      c.if-not-in_form.true,
    )
    refl

pub returns-then-not-in_form-2 : goal.returns-then-not-in_form-2
unfolding rule7
returns-then-not-in_form-2 c =
    rw (
      ← c.is_system.ensures,
      c.if-not-is_system.false,
      ← c.form_n1.ensures,
      ← c.in_form.ensures,
      c.if-not-in_form.false,
      ← c.form_n2.ensures,
      ← c.in_form-2.ensures,
      c.if-not-in_form-2.true,
    )

pub returns : goal.returns
unfolding rule7
returns c =
    rw (
      ← c.is_system.ensures,
      c.if-not-is_system.false,
      ← c.form_n1.ensures,
      ← c.in_form.ensures,
      c.if-not-in_form.false,
      ← c.form_n2.ensures,
      ← c.in_form-2.ensures,
      c.if-not-in_form-2.false,
    )
