use Rattle.paper_record.specs.Flags.{is_flag_heading}
use Rattle.std.proofs.Common.{arith}
use Rattle.record_flags.proofs.flags.is_flag_heading.Goals as goal

pub returns-then-is_flag : goal.returns-then-is_flag
unfolding is_flag_heading
returns-then-is_flag c = grind arith

pub returns-else-is_flag : goal.returns-else-is_flag
unfolding is_flag_heading
returns-else-is_flag c = grind arith
