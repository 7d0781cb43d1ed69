use Rattle.paper_record.specs.System.{is_entry_n1}
use Rattle.std.proofs.Common.{arith}
use Rattle.record.proofs.system.is_entry_n1.Goals as goal

pub returns-then-blank_to : goal.returns-then-blank_to
unfolding is_entry_n1
returns-then-blank_to c = grind arith

pub returns-else-blank_to : goal.returns-else-blank_to
unfolding is_entry_n1
returns-else-blank_to c = grind arith
