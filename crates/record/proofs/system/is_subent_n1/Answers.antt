use Rattle.paper_record.specs.System.{is_subent_n1}
use Rattle.std.proofs.Common.{arith}
use Rattle.record.proofs.system.is_subent_n1.Goals as goal

pub returns-then-is_accession : goal.returns-then-is_accession
unfolding is_subent_n1
returns-then-is_accession c = grind arith

pub returns-else-is_accession : goal.returns-else-is_accession
unfolding is_subent_n1
returns-else-is_accession c = grind arith
