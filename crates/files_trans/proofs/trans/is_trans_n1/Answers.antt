use Rattle.paper_files.specs.Outside.{is_trans_n1}
use mathlib.Core.Path.{refl}
use Rattle.files_trans.proofs.trans.is_trans_n1.Goals as goal

pub returns-then-blank_to : goal.returns-then-blank_to
unfolding is_trans_n1
returns-then-blank_to c = rw (← c.blank_to.ensures, c.if-blank_to.true) c.marks_in.ensures

pub returns-else-blank_to : goal.returns-else-blank_to
unfolding is_trans_n1
returns-else-blank_to c = rw (← c.blank_to.ensures, c.if-blank_to.false) refl
