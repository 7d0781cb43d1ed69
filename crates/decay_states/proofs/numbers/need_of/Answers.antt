use Rattle.paper_decay.specs.Scan.{need_of}
use native.Mathlib.Omega.{arith}
use borrow.Author.Tests.{eq-eqb, ne_eqb, lt-ltb, le-ltb}
use mathlib.Core.Path.{refl}
use Rattle.decay_states.proofs.numbers.need_of.Goals as goal

pub returns-then-inner-eq4 : goal.returns-then-inner-eq4
unfolding need_of
returns-then-inner-eq4 c = (rw (eq-eqb _ _ c.if-inner-eq4.true) refl, omega arith)

pub returns-then-inner-eq9 : goal.returns-then-inner-eq9
unfolding need_of
returns-then-inner-eq9 c = (rw (ne_eqb _ _ c.if-inner-eq4.false, eq-eqb _ _ c.if-inner-eq9.true) refl, omega arith)

pub returns-then-inner-lt2 : goal.returns-then-inner-lt2
unfolding need_of
returns-then-inner-lt2 c = (rw (ne_eqb _ _ c.if-inner-eq4.false, ne_eqb _ _ c.if-inner-eq9.false, lt-ltb _ _ c.if-inner-lt2.true) refl, omega arith)

pub returns-then-inner-lt4 : goal.returns-then-inner-lt4
unfolding need_of
returns-then-inner-lt4 c = (rw (ne_eqb _ _ c.if-inner-eq4.false, ne_eqb _ _ c.if-inner-eq9.false, le-ltb _ _ c.if-inner-lt2.false, lt-ltb _ _ c.if-inner-lt4.true) refl, omega arith)

pub returns-then-inner-eq6 : goal.returns-then-inner-eq6
unfolding need_of
returns-then-inner-eq6 c = (rw (ne_eqb _ _ c.if-inner-eq4.false, ne_eqb _ _ c.if-inner-eq9.false, le-ltb _ _ c.if-inner-lt2.false, le-ltb _ _ c.if-inner-lt4.false, eq-eqb _ _ c.if-inner-eq6.true) refl, omega arith)

pub returns-then-inner-eq8 : goal.returns-then-inner-eq8
unfolding need_of
returns-then-inner-eq8 c = (rw (ne_eqb _ _ c.if-inner-eq4.false, ne_eqb _ _ c.if-inner-eq9.false, le-ltb _ _ c.if-inner-lt2.false, le-ltb _ _ c.if-inner-lt4.false, ne_eqb _ _ c.if-inner-eq6.false, eq-eqb _ _ c.if-inner-eq8.true) refl, omega arith)

pub returns : goal.returns
unfolding need_of
returns c = (rw (ne_eqb _ _ c.if-inner-eq4.false, ne_eqb _ _ c.if-inner-eq9.false, le-ltb _ _ c.if-inner-lt2.false, le-ltb _ _ c.if-inner-lt4.false, ne_eqb _ _ c.if-inner-eq6.false, ne_eqb _ _ c.if-inner-eq8.false) refl, omega arith)
