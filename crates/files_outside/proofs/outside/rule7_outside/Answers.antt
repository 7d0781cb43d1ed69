use Rattle.paper_files.specs.Outside.{rule7_outside}
use borrow.Author.Tests.{eq-eqb, ne_eqb}
use mathlib.Core.Path.{refl}
use Rattle.files_outside.proofs.outside.rule7_outside.Goals as goal

pub returns-then-role-eq-TRANS : goal.returns-then-role-eq-TRANS
unfolding rule7_outside
returns-then-role-eq-TRANS c = rw (eq-eqb _ _ c.if-role-eq-TRANS.true) c.trans_form.ensures

pub returns-then-role-ne-ENDTRANS : goal.returns-then-role-ne-ENDTRANS
unfolding rule7_outside
returns-then-role-ne-ENDTRANS c = rw (ne_eqb _ _ c.if-role-eq-TRANS.false, ne_eqb _ _ c.if-role-ne-ENDTRANS.true) refl

pub returns-then-not-is_count : goal.returns-then-not-is_count
unfolding rule7_outside
returns-then-not-is_count c = rw (ne_eqb _ _ c.if-role-eq-TRANS.false, eq-eqb _ _ c.if-role-ne-ENDTRANS.false, ← c.count_of.ensures.value, ← c.is_count.ensures, c.if-not-is_count.true) refl

pub returns : goal.returns
unfolding rule7_outside
returns c = rw (ne_eqb _ _ c.if-role-eq-TRANS.false, eq-eqb _ _ c.if-role-ne-ENDTRANS.false, ← c.count_of.ensures.value, ← c.is_count.ensures, c.if-not-is_count.false) refl
