use borrow.Author.Tests.{eq-eqb, ne_eqb}
use mathlib.Core.Path.{refl}
use Rattle.paper_decay.specs.Records.{behind_text}
use Rattle.decay_records.proofs.records.behind_text.Goals as goal

pub returns-then-place-eq5 : goal.returns-then-place-eq5
unfolding behind_text
returns-then-place-eq5 c = rw (c.turned_out.ensures, c.said.ensures, eq-eqb _ _ c.if-place-eq5.true) refl

pub returns-then-place-eq6 : goal.returns-then-place-eq6
unfolding behind_text
returns-then-place-eq6 c = rw (c.turned_out-then-place-eq6.ensures, c.said-then-place-eq6.ensures, ne_eqb _ _ c.if-place-eq5.false, eq-eqb _ _ c.if-place-eq6.true) refl

pub returns-then-last-eq44 : goal.returns-then-last-eq44
unfolding behind_text
returns-then-last-eq44 c = rw (c.turned_on.ensures, ne_eqb _ _ c.if-place-eq5.false, ne_eqb _ _ c.if-place-eq6.false, eq-eqb _ _ c.if-last-eq44.true) refl

pub returns : goal.returns
unfolding behind_text
returns c = rw (c.turned_out-2.ensures, c.said-2.ensures, ne_eqb _ _ c.if-place-eq5.false, ne_eqb _ _ c.if-place-eq6.false, ne_eqb _ _ c.if-last-eq44.false) refl
