use Rattle.std.proofs.Common.{arith}
use Rattle.paper_number.proofs.Steps.{mark-over, mark-blank}
use Rattle.number_walk.proofs.walk.in_mark.Goals as goal

pub returns-in_err-b : goal.returns-in_err-b
returns-in_err-b c = rw c.from_residual.ensures (mark-over c.args.s.now c.args.i c.in_err-b.ensures.lookup.3)

pub returns-in_default : goal.returns-in_default
returns-in_default c =
    let l = c.in_ok-b.ensures.lookup.3 in
    let e = l.1 0 in
    mark-blank c.args.s.now c.args.i c.blanks_from.result _ l.0 (λ q. absurd (omega arith)) (λ q. absurd (omega arith))
    c.blanks_from.ensures c.in_power_sign-in_default.ensures
