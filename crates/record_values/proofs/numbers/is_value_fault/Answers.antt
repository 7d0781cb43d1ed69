use mathlib.Core.Bool.{not}
use mathlib.Core.Path.{ap}
use borrow.Author.Tests.{le-ltb, lt-ltb}
use Rattle.record_values.proofs.numbers.is_value_fault.Goals as goal

pub returns-then-k-used : goal.returns-then-k-used
returns-then-k-used c = rw (lt-ltb _ _ c.if-k-used.true) c.is_no_value.ensures

pub returns-else-k-used : goal.returns-else-k-used
returns-else-k-used c = rw (le-ltb _ _ c.if-k-used.false) (ap not c.is_blank_form.ensures)
