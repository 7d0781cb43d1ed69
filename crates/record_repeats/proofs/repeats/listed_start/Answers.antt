use Rattle.paper_record.specs.Repeats.{listed_start}
use Rattle.std.proofs.Common.{arith}
use Rattle.record_repeats.proofs.repeats.listed_start.Goals as goal

pub returns-then-starts_with : goal.returns-then-starts_with
unfolding listed_start
returns-then-starts_with c = grind arith

pub returns-then-in_data : goal.returns-then-in_data
unfolding listed_start
returns-then-in_data c = grind arith

pub returns-else-in_data : goal.returns-else-in_data
unfolding listed_start
returns-else-in_data c = grind arith
