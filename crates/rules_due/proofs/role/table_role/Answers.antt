use mathlib.Core.Path.{refl}
use Rattle.paper_rules.specs.Role.{table_role}
use borrow.Author.Tests.{eq-eqb, le-ltb, lt-ltb, ne_eqb}
use Rattle.rules_due.proofs.role.table_role.Goals as goal

pub returns-then-last-line : goal.returns-then-last-line
unfolding table_role
returns-then-last-line c = rw (lt-ltb _ _ c.if-last-line.true) c.only.ensures

pub returns-then-is_end : goal.returns-then-is_end
unfolding table_role
returns-then-is_end c = rw (le-ltb _ _ c.if-last-line.false, ← c.is_end.ensures, c.if-is_end.true) refl

pub returns-then-t-eq-HEADINGS : goal.returns-then-t-eq-HEADINGS
unfolding table_role
returns-then-t-eq-HEADINGS c =
    rw (
      le-ltb _ _ c.if-last-line.false,
      ← c.is_end.ensures,
      c.if-is_end.false,
      eq-eqb _ _ c.if-t-eq-HEADINGS.true,
    )

pub returns-then-t-eq-UNITS : goal.returns-then-t-eq-UNITS
unfolding table_role
returns-then-t-eq-UNITS c =
    rw (
      le-ltb _ _ c.if-last-line.false,
      ← c.is_end.ensures,
      c.if-is_end.false,
      ne_eqb _ _ c.if-t-eq-HEADINGS.false,
      eq-eqb _ _ c.if-t-eq-UNITS.true,
    )

pub returns : goal.returns
unfolding table_role
returns c =
    rw (
      le-ltb _ _ c.if-last-line.false,
      ← c.is_end.ensures,
      c.if-is_end.false,
      ne_eqb _ _ c.if-t-eq-HEADINGS.false,
      ne_eqb _ _ c.if-t-eq-UNITS.false,
    )
