use native.Mathlib.Omega.{arith}
use Rattle.paper_number.proofs.Zeros.{few-zeros, one-zero, trimmed}
use Rattle.number.proofs.value.without_zeros.Goals as goal

pub loop-number-init : goal.loop-number-init
loop-number-init c = (c.requires, omega arith)

pub overflow_add-zeros : goal.overflow_add-zeros
overflow_add-zeros c =
    let args = c.args in
    let loop = c.loop-number in
    omega (arith, few-zeros args.n loop.number loop.zeros loop.invariant.0 loop.invariant.1 (omega arith))

pub loop-number-smaller : goal.loop-number-smaller
loop-number-smaller c = omega (arith, c.loop-number.invariant.0)

pub loop-number-preserved : goal.loop-number-preserved
loop-number-preserved c =
    let args = c.args in
    let loop = c.loop-number in (
      omega (arith, loop.invariant.0),
      one-zero args.n loop.number loop.zeros loop.invariant.0 loop.invariant.1 (omega arith),
    )

pub returns : goal.returns
returns c =
    let args = c.args in
    let loop = c.loop-number in
    trimmed args.n loop.number loop.zeros loop.invariant.0 loop.invariant.1 (omega arith)
