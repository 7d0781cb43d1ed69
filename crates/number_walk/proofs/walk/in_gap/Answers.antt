use Rattle.std.proofs.Common.{arith}
use Rattle.paper_number.proofs.Steps.{tails-over}
use Rattle.number_walk.proofs.walk.in_gap.Goals as goal

pub returns-then-i-s : goal.returns-then-i-s
returns-then-i-s c = tails-over c.args.s.now c.args.from _ c.blanks_from-i.ensures (omega (arith, c.if-i-s.true))
