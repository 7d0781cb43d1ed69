use Rattle.paper_reasons.specs.Reason.{has_reason}
use borrow.Author.Tests.{eq-eqb, ne_eqb}
use mathlib.Core.Path.{refl}
use Rattle.reasons.proofs.explain.has_reason.Goals as goal

pub returns-then-number-eq5 : goal.returns-then-number-eq5
unfolding has_reason
returns-then-number-eq5 c = rw (eq-eqb _ _ c.if-number-eq5.true) refl

pub returns-then-number-eq6 : goal.returns-then-number-eq6
unfolding has_reason
returns-then-number-eq6 c = rw (ne_eqb _ _ c.if-number-eq5.false, eq-eqb _ _ c.if-number-eq6.true) refl

pub returns-then-number-eq8 : goal.returns-then-number-eq8
unfolding has_reason
returns-then-number-eq8 c =
    rw (ne_eqb _ _ c.if-number-eq5.false, ne_eqb _ _ c.if-number-eq6.false, eq-eqb _ _ c.if-number-eq8.true) refl

pub returns-then-number-eq9 : goal.returns-then-number-eq9
unfolding has_reason
returns-then-number-eq9 c =
    rw (
      ne_eqb _ _ c.if-number-eq5.false,
      ne_eqb _ _ c.if-number-eq6.false,
      ne_eqb _ _ c.if-number-eq8.false,
      eq-eqb _ _ c.if-number-eq9.true,
    ) refl

pub returns-then-number-eq13 : goal.returns-then-number-eq13
unfolding has_reason
returns-then-number-eq13 c = rw (
  ne_eqb _ _ c.if-number-eq5.false,
  ne_eqb _ _ c.if-number-eq6.false,
  ne_eqb _ _ c.if-number-eq8.false,
  ne_eqb _ _ c.if-number-eq9.false,
  eq-eqb _ _ c.if-number-eq13.true,
) refl

pub returns : goal.returns
unfolding has_reason
returns c = rw (
  ne_eqb _ _ c.if-number-eq5.false,
  ne_eqb _ _ c.if-number-eq6.false,
  ne_eqb _ _ c.if-number-eq8.false,
  ne_eqb _ _ c.if-number-eq9.false,
  ne_eqb _ _ c.if-number-eq13.false,
) refl
