use Rattle.paper_record.specs.System.{is_accession}
use Rattle.std.proofs.Common.{arith}
use Rattle.record.proofs.system.is_accession.Goals as goal

pub returns-then-is_capital_or_digit : goal.returns-then-is_capital_or_digit
unfolding is_accession
returns-then-is_capital_or_digit c = grind arith

pub returns-else-is_capital_or_digit : goal.returns-else-is_capital_or_digit
unfolding is_accession
returns-else-is_capital_or_digit c = grind arith
