use Rattle.std.proofs.Common.{arith, ◌+◌}
use Rattle.paper_number.proofs.Steps.{power-none, power-stuck, power-size, power-done}
use Rattle.paper_number.proofs.Tens.{ten-le}
use Rattle.number_walk.proofs.walk.in_power_sign.Goals as goal

pub returns-in_err-first : goal.returns-in_err-first
returns-in_err-first c =
    rw c.from_residual.ensures
    (power-none c.args.s.now c.args.i c.args.below c.requires.0.short c.requires.1 c.in_err-first.ensures c.requires.0.inside)

pub digits_from-end-requires : goal.digits_from-end-requires
digits_from-end-requires c =
    let x = c.in_ok-first.ensures in
    let p = ten-le {i = 1} {j = c.args.i + 1} (omega arith) in
    (record { short = c.requires.0.short; inside = omega (arith, x.0) }, omega (arith, x.1, c.from.ensures, p))

pub returns-then-end-s : goal.returns-then-end-s
returns-then-end-s c =
    let y = rw c.from.ensures at c.digits_from-end.ensures in
    power-stuck c.args.s.now c.args.i c.args.below c.requires.0.short c.requires.1 c.in_ok-first.first _ _
    c.in_ok-first.ensures y c.if-end-s.true

pub overflow_cast-size : goal.overflow_cast-size
overflow_cast-size c =
    let y = rw c.from.ensures at c.digits_from-end.ensures in
    let z = power-size c.args.s.now c.args.i c.args.below c.requires.0.short c.requires.1 c.in_ok-first.first _ _
    c.in_ok-first.ensures y in
    omega (arith, z)

pub returns : goal.returns
returns c =
    let y = rw c.from.ensures at c.digits_from-end.ensures in
    power-done c.args.s.now c.args.i c.args.below c.requires.0.short c.requires.1 c.in_ok-first.first _ _
    c.in_ok-first.ensures y (omega (arith, c.if-end-s.false))
