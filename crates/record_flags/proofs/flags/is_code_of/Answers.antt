use Rattle.paper_record.proofs.Codes.{long-no-code}
use Rattle.paper_record.specs.Flags.{code_number, is_code}
use Rattle.std.proofs.Common.{arith}
use Rattle.record_flags.proofs.flags.is_code_of.Goals as goal

pub returns-then-x-ne40 : goal.returns-then-x-ne40
unfolding is_code
returns-then-x-ne40 c = grind arith

pub returns-then-x-m-eq41 : goal.returns-then-x-m-eq41
unfolding is_code code_number
returns-then-x-m-eq41 c = grind arith

pub returns-else-x-m-eq41 : goal.returns-else-x-m-eq41
unfolding is_code
returns-else-x-m-eq41 c = let long = long-no-code c.args.x.now c.requires.0 in grind (arith, long)
