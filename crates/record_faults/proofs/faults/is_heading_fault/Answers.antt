use Rattle.paper_record.specs.Faults.{heading_fault}
use borrow.Author.Tests.{le-ltb, lt-ltb}
use Rattle.record_faults.proofs.faults.is_heading_fault.Goals as goal

pub returns-then-k-used : goal.returns-then-k-used
unfolding heading_fault
returns-then-k-used c = rw (lt-ltb _ _ c.if-k-used.true, ← c.is_word.ensures)

pub returns-else-k-used : goal.returns-else-k-used
unfolding heading_fault
returns-else-k-used c = rw (le-ltb _ _ c.if-k-used.false, ← c.is_blank.ensures)
