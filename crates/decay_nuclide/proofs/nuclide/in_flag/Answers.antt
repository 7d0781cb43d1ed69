use borrow.Author.Tests.{eq-eqb, ne_eqb}
use mathlib.Core.Path.{refl}
use Rattle.paper_decay.specs.Scan.{flag_step}
use Rattle.decay_nuclide.proofs.nuclide.in_flag.Goals as goal

pub returns-then-inner-eq0 : goal.returns-then-inner-eq0
unfolding flag_step
returns-then-inner-eq0 c = rw (c.to_if.ensures, c.head.ensures, eq-eqb _ _ c.if-inner-eq0.true) refl

pub returns-then-b-eq40 : goal.returns-then-b-eq40
unfolding flag_step
returns-then-b-eq40 c = rw (c.head-then-b-eq40.ensures, ne_eqb _ _ c.if-inner-eq0.false, eq-eqb _ _ c.if-inner-eq1.true, eq-eqb _ _ c.if-b-eq40.true) refl

pub returns-then-inner-eq1 : goal.returns-then-inner-eq1
unfolding flag_step
returns-then-inner-eq1 c = rw (c.before_nuclide.ensures, ne_eqb _ _ c.if-inner-eq0.false, eq-eqb _ _ c.if-inner-eq1.true, ne_eqb _ _ c.if-b-eq40.false) refl

pub returns-then-inner-eq2 : goal.returns-then-inner-eq2
unfolding flag_step
returns-then-inner-eq2 c = rw (c.in_flag_digits.ensures, ne_eqb _ _ c.if-inner-eq0.false, ne_eqb _ _ c.if-inner-eq1.false, eq-eqb _ _ c.if-inner-eq2.true) refl

pub returns-then-inner-eq4 : goal.returns-then-inner-eq4
unfolding flag_step
returns-then-inner-eq4 c = rw (c.before_nuclide-then-inner-eq4.ensures, ne_eqb _ _ c.if-inner-eq0.false, ne_eqb _ _ c.if-inner-eq1.false, ne_eqb _ _ c.if-inner-eq2.false, eq-eqb _ _ c.if-inner-eq4.true) refl

pub returns : goal.returns
unfolding flag_step
returns c = rw (c.nowhere.ensures, ne_eqb _ _ c.if-inner-eq0.false, ne_eqb _ _ c.if-inner-eq1.false, ne_eqb _ _ c.if-inner-eq2.false, ne_eqb _ _ c.if-inner-eq4.false) refl
