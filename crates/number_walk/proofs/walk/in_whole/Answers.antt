use mathlib.Core.Path.{sym, ◌∙◌}
use Rattle.std.proofs.Common.{arith}
use Rattle.paper_number.proofs.Steps.{whole-pointed, whole-none}
use Rattle.paper_number.proofs.Tens.{ten-le}
use Rattle.number_walk.proofs.walk.in_whole.Goals as goal

pub digits_from-end-requires : goal.digits_from-end-requires
digits_from-end-requires c =
    let p = ten-le {i = 1} {j = c.args.from} c.requires.2 in
    (c.requires.0, omega (arith, c.requires.1, c.from.ensures, p))

pub returns-in_err-b : goal.returns-in_err-b
returns-in_err-b c =
    let y = rw c.from.ensures at c.digits_from-end.ensures in
    let l = c.in_err-b.ensures.lookup.3 in
    rw c.from_residual.ensures
    (whole-none c.args.s.now c.args.from c.args.first _ _ y (λ h. absurd (omega arith)))

pub returns-then-b-ne46 : goal.returns-then-b-ne46
returns-then-b-ne46 c =
    let y = rw c.from.ensures at c.digits_from-end.ensures in
    whole-none c.args.s.now c.args.from c.args.first _ _ y
    (λ h e. c.if-b-ne46.true (c.in_ok-b.ensures.lookup.3.1 0 ∙ e))

pub returns : goal.returns
returns c =
    let y = rw c.from.ensures at c.digits_from-end.ensures in
    let p = ten-le {i = 1} {j = c.args.from} c.requires.2 in
    let l = c.in_ok-b.ensures.lookup.3 in
    whole-pointed c.args.s.now c.args.from c.args.first _ _ y c.requires.2 (omega (arith, c.requires.1, p)) l.0
    (sym (l.1 0) ∙ c.if-b-ne46.false)
