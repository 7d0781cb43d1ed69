use Rattle.paper_record.specs.Faults.{is_unit_word}
use Rattle.record_faults.proofs.faults.is_unit.Goals as goal

pub returns-then-is_word : goal.returns-then-is_word
unfolding is_unit_word
returns-then-is_word c = rw (← c.is_word.ensures, c.if-is_word.true)

pub returns-else-is_word : goal.returns-else-is_word
unfolding is_unit_word
returns-else-is_word c = rw (← c.is_word.ensures, c.if-is_word.false)
