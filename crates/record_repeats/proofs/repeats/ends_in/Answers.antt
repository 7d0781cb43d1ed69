use Rattle.paper_record.specs.Repeats.{ends_in}
use Rattle.std.proofs.Common.{arith}
use Rattle.record_repeats.proofs.repeats.ends_in.Goals as goal

pub returns-then-w-end : goal.returns-then-w-end
unfolding ends_in
returns-then-w-end c = grind arith

pub returns-else-w-end : goal.returns-else-w-end
unfolding ends_in
returns-else-w-end c = grind arith
