use Rattle.paper_number.proofs.Steps.{point-some, point-none}
use Rattle.number_walk.proofs.walk.in_point.Goals as goal

pub returns-in_err-d : goal.returns-in_err-d
returns-in_err-d c = rw c.from_residual.ensures (point-none c.args.s.now c.args.i c.in_err-d.ensures)

pub returns : goal.returns
returns c = rw c.from.ensures (point-some c.args.s.now c.args.i c.in_ok-d.d c.in_ok-d.ensures c.requires.1)
