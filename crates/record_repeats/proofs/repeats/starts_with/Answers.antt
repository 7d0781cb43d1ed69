use Rattle.paper_record.specs.Repeats.{starts_with}
use Rattle.std.proofs.Common.{arith}
use Rattle.record_repeats.proofs.repeats.starts_with.Goals as goal

pub returns-then-w-word_end : goal.returns-then-w-word_end
unfolding starts_with
returns-then-w-word_end c = grind arith

pub returns-else-w-word_end : goal.returns-else-w-word_end
unfolding starts_with
returns-else-w-word_end c = grind arith
