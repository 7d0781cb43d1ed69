use native.Mathlib.Omega.{arith}
use Rattle.paper_double.proofs.Powers.{wide-power, sum_fits, sum-flat, rung-below, rung-above, rung-within}
use Rattle.double_tens.proofs.tens.rung.Goals as goal

pub overflow_cast-s : goal.overflow_cast-s
overflow_cast-s c = wide-power c.args.power c.ranges.power

pub overflow_add-s : goal.overflow_add-s
overflow_add-s c = sum_fits c.args.power c.ranges.power 22 (omega arith)

pub returns-then-s-lt0 : goal.returns-then-s-lt0
returns-then-s-lt0 c =
    let s = sum-flat c.args.power c.ranges.power 22 (omega arith) in
    rung-below c.args.power (rw s at c.if-s-lt0.true)

pub returns-then-s-gt44 : goal.returns-then-s-gt44
returns-then-s-gt44 c =
    let s = sum-flat c.args.power c.ranges.power 22 (omega arith) in
    rung-above c.args.power (rw s at c.if-s-gt44.true)

pub overflow_cast-result : goal.overflow_cast-result
overflow_cast-result c =
    let s = sum-flat c.args.power c.ranges.power 22 (omega arith) in
    rw s (rung-within c.args.power (rw s at c.if-s-lt0.false) (rw s at c.if-s-gt44.false)).cast

pub returns : goal.returns
returns c =
    let s = sum-flat c.args.power c.ranges.power 22 (omega arith) in
    rw s (rung-within c.args.power (rw s at c.if-s-lt0.false) (rw s at c.if-s-gt44.false)).same
