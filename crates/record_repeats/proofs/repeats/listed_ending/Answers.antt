use Rattle.paper_record.specs.Repeats.{listed_ending}
use Rattle.std.proofs.Common.{arith}
use Rattle.record_repeats.proofs.repeats.listed_ending.Goals as goal

pub returns-then-ends_in : goal.returns-then-ends_in
unfolding listed_ending
returns-then-ends_in c = grind arith

pub returns-else-ends_in : goal.returns-else-ends_in
unfolding listed_ending
returns-else-ends_in c = grind arith
