use Rattle.paper_record.specs.Repeats.{spells}
use Rattle.std.proofs.Common.{arith}
use Rattle.record_repeats.proofs.repeats.spells.Goals as goal

pub returns-then-end-w : goal.returns-then-end-w
unfolding spells
returns-then-end-w c = grind arith

pub returns-else-end-w : goal.returns-else-end-w
unfolding spells
returns-else-end-w c = grind arith
