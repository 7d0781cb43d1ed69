use Rattle.paper_files.specs.Outside.{rule8_outside}
use borrow.Author.Tests.{eq-eqb, ne_eqb}
use mathlib.Core.Path.{refl}
use Rattle.files_outside.proofs.outside.rule8_outside.Goals as goal

pub returns-then-role-ne-ENDTRANS : goal.returns-then-role-ne-ENDTRANS
unfolding rule8_outside
returns-then-role-ne-ENDTRANS c = rw (ne_eqb _ _ c.if-role-ne-ENDTRANS.true) refl

pub returns-then-said-entries : goal.returns-then-said-entries
unfolding rule8_outside
returns-then-said-entries c = rw (eq-eqb _ _ c.if-role-ne-ENDTRANS.false, ← c.count_of.ensures.value, ← c.number_of-said.ensures, ne_eqb _ _ c.if-said-entries.true) refl

pub returns : goal.returns
unfolding rule8_outside
returns c = rw (eq-eqb _ _ c.if-role-ne-ENDTRANS.false, ← c.count_of.ensures.value, ← c.number_of-said.ensures, eq-eqb _ _ c.if-said-entries.false) refl
