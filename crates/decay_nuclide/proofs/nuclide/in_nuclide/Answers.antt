use borrow.Author.Tests.{eq-eqb, ne_eqb}
use mathlib.Core.Path.{refl}
use Rattle.paper_decay.specs.Scan.{nuclide_step}
use Rattle.decay_nuclide.proofs.nuclide.in_nuclide.Goals as goal

pub returns-then-inner-eq5 : goal.returns-then-inner-eq5
unfolding nuclide_step
returns-then-inner-eq5 c = rw (c.in_digits.ensures, eq-eqb _ _ c.if-inner-eq5.true) refl

pub returns-then-inner-eq6 : goal.returns-then-inner-eq6
unfolding nuclide_step
returns-then-inner-eq6 c = rw (c.in_symbol.ensures, ne_eqb _ _ c.if-inner-eq5.false, eq-eqb _ _ c.if-inner-eq6.true) refl

pub returns-then-inner-eq7 : goal.returns-then-inner-eq7
unfolding nuclide_step
returns-then-inner-eq7 c = rw (c.in_digits-then-inner-eq7.ensures, ne_eqb _ _ c.if-inner-eq5.false, ne_eqb _ _ c.if-inner-eq6.false, eq-eqb _ _ c.if-inner-eq7.true) refl

pub returns-then-b-eq77 : goal.returns-then-b-eq77
unfolding nuclide_step
returns-then-b-eq77 c = rw (c.head.ensures, ne_eqb _ _ c.if-inner-eq5.false, ne_eqb _ _ c.if-inner-eq6.false, ne_eqb _ _ c.if-inner-eq7.false, eq-eqb _ _ c.if-inner-eq8.true, eq-eqb _ _ c.if-b-eq77.true) refl

pub returns-then-inner-eq8 : goal.returns-then-inner-eq8
unfolding nuclide_step
returns-then-inner-eq8 c = rw (c.to_if.ensures, c.head-then-inner-eq8.ensures, ne_eqb _ _ c.if-inner-eq5.false, ne_eqb _ _ c.if-inner-eq6.false, ne_eqb _ _ c.if-inner-eq7.false, eq-eqb _ _ c.if-inner-eq8.true, ne_eqb _ _ c.if-b-eq77.false) refl

pub returns-then-b-eq49 : goal.returns-then-b-eq49
unfolding nuclide_step
returns-then-b-eq49 c = rw (c.head-then-b-eq49.ensures, ne_eqb _ _ c.if-inner-eq5.false, ne_eqb _ _ c.if-inner-eq6.false, ne_eqb _ _ c.if-inner-eq7.false, ne_eqb _ _ c.if-inner-eq8.false, eq-eqb _ _ c.if-inner-eq9.true, eq-eqb _ _ c.if-b-eq49.true) refl

pub returns-then-inner-eq9 : goal.returns-then-inner-eq9
unfolding nuclide_step
returns-then-inner-eq9 c = rw (c.to_if-then-inner-eq9.ensures, c.head-then-inner-eq9.ensures, ne_eqb _ _ c.if-inner-eq5.false, ne_eqb _ _ c.if-inner-eq6.false, ne_eqb _ _ c.if-inner-eq7.false, ne_eqb _ _ c.if-inner-eq8.false, eq-eqb _ _ c.if-inner-eq9.true, ne_eqb _ _ c.if-b-eq49.false) refl

pub returns : goal.returns
unfolding nuclide_step
returns c = rw (c.nowhere.ensures, ne_eqb _ _ c.if-inner-eq5.false, ne_eqb _ _ c.if-inner-eq6.false, ne_eqb _ _ c.if-inner-eq7.false, ne_eqb _ _ c.if-inner-eq8.false, ne_eqb _ _ c.if-inner-eq9.false) refl
