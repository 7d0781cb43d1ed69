use mathlib.Core.Path.{refl}
use Rattle.paper_rules.specs.Role.{bib_role}
use borrow.Author.Tests.{eq-eqb, ne_eqb}
use Rattle.rules_due.proofs.role.bib_role.Goals as goal

pub returns-then-track-due : goal.returns-then-track-due
unfolding bib_role
returns-then-track-due c = rw (eq-eqb _ _ c.if-track-due.true) c.only.ensures

pub returns-then-k-eq-OTHER : goal.returns-then-k-eq-OTHER
unfolding bib_role
returns-then-k-eq-OTHER c = rw (ne_eqb _ _ c.if-track-due.false, eq-eqb _ _ c.if-k-eq-OTHER.true)

pub returns : goal.returns
unfolding bib_role
returns c = rw (ne_eqb _ _ c.if-track-due.false, ne_eqb _ _ c.if-k-eq-OTHER.false) refl
