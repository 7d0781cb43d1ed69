use Rattle.paper_files.specs.Outside.{trans_form}
use mathlib.Core.Path.{refl}
use Rattle.files_trans.proofs.trans.trans_form.Goals as goal

pub returns-then-not-is_trans_n1 : goal.returns-then-not-is_trans_n1
unfolding trans_form
returns-then-not-is_trans_n1 c = rw (← c.is_trans_n1.ensures, c.if-not-is_trans_n1.true) refl

pub returns-then-not-is_date : goal.returns-then-not-is_date
unfolding trans_form
returns-then-not-is_date c = rw (← c.is_trans_n1.ensures, c.if-not-is_trans_n1.false, ← c.is_date.ensures, c.if-not-is_date.true) refl

pub returns : goal.returns
unfolding trans_form
returns c = rw (← c.is_trans_n1.ensures, c.if-not-is_trans_n1.false, ← c.is_date.ensures, c.if-not-is_date.false) refl
