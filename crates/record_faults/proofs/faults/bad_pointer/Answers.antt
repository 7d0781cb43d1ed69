use Rattle.paper_record.specs.Faults.{bad_pointer}
use borrow.Author.Tests.{eq-eqb, ne_eqb}
use Rattle.record_faults.proofs.faults.bad_pointer.Goals as goal

pub returns-then-f-ne32 : goal.returns-then-f-ne32
unfolding bad_pointer
returns-then-f-ne32 c = rw (ne_eqb _ _ c.if-f-ne32.true, ← c.is_pointer.ensures)

pub returns-else-f-ne32 : goal.returns-else-f-ne32
unfolding bad_pointer
returns-else-f-ne32 c = rw (eq-eqb _ _ c.if-f-ne32.false)
