use mathlib.Core.Path.{sym, ◌∙◌}
use Rattle.std.proofs.Common.{arith}
use Rattle.paper_number.proofs.Steps.{signed-none, signed-point}
use Rattle.number_walk.proofs.walk.in_signed.Goals as goal

pub returns-in_err-b : goal.returns-in_err-b
returns-in_err-b c =
    let l = c.in_err-b.ensures.lookup.3 in
    rw c.from_residual.ensures
    (signed-none c.args.s.now c.args.i c.in_default.ensures (λ h. absurd (omega arith)))

pub returns-then-b-ne46 : goal.returns-then-b-ne46
returns-then-b-ne46 c =
    signed-none c.args.s.now c.args.i c.in_default.ensures
    (λ h e. c.if-b-ne46.true (c.in_ok-b.ensures.lookup.3.1 0 ∙ e))

pub returns : goal.returns
returns c =
    let l = c.in_ok-b.ensures.lookup.3 in
    signed-point c.args.s.now c.args.i _ l.0 (sym (l.1 0) ∙ c.if-b-ne46.false) c.in_point.ensures
