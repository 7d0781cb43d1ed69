use Rattle.paper_record.specs.System.{is_date}
use Rattle.std.proofs.Common.{arith}
use Rattle.record.proofs.system.is_date.Goals as goal

pub returns-then-is_within : goal.returns-then-is_within
unfolding is_date
returns-then-is_within c = grind arith

pub returns-else-is_within : goal.returns-else-is_within
unfolding is_date
returns-else-is_within c = grind arith
