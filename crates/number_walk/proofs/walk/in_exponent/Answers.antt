use Rattle.std.proofs.Common.{rules}
use Rattle.paper_number.proofs.Steps.{gap-none}
use Rattle.number_walk.proofs.walk.in_exponent.Goals as goal

pub returns-in_default : goal.returns-in_default
returns-in_default c = search (rules, gap-none)
