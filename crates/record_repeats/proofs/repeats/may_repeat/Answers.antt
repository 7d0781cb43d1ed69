use Rattle.paper_record.specs.Repeats.{may_repeat}
use Rattle.std.proofs.Common.{arith}
use Rattle.record_repeats.proofs.repeats.may_repeat.Goals as goal

pub returns-then-listed_ending : goal.returns-then-listed_ending
unfolding may_repeat
returns-then-listed_ending c = grind arith

pub returns-else-listed_ending : goal.returns-else-listed_ending
unfolding may_repeat
returns-else-listed_ending c = grind arith
