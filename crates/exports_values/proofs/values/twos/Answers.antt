use Rattle.paper_canonical.proofs.Numbers.{wide-power}
use Rattle.exports_values.proofs.Twos.{widened, below, above}
use Rattle.exports_values.proofs.values.twos.Goals as goal

pub overflow_cast-p : goal.overflow_cast-p
overflow_cast-p c = wide-power c.args.power c.ranges.power

pub overflow_sub-below : goal.overflow_sub-below
overflow_sub-below c =
    let s = widened c.args.power c.ranges.power in
    let g = below c.args.power c.ranges.power (rw s at c.if-p-lt0.true) in
    rw s g.fits

pub overflow_cast-result : goal.overflow_cast-result
overflow_cast-result c =
    let s = widened c.args.power c.ranges.power in
    let g = below c.args.power c.ranges.power (rw s at c.if-p-lt0.true) in
    rw s g.cast

pub overflow_sub-result : goal.overflow_sub-result
overflow_sub-result c =
    let s = widened c.args.power c.ranges.power in
    let g = below c.args.power c.ranges.power (rw s at c.if-p-lt0.true) in
    rw s g.most

pub returns-then-p-lt0 : goal.returns-then-p-lt0
returns-then-p-lt0 c =
    let s = widened c.args.power c.ranges.power in
    let g = below c.args.power c.ranges.power (rw s at c.if-p-lt0.true) in
    rw s g.same

pub overflow_cast-result-2 : goal.overflow_cast-result-2
overflow_cast-result-2 c =
    let s = widened c.args.power c.ranges.power in
    let g = above c.args.power c.ranges.power (rw s at c.if-p-lt0.false) in
    rw s g.cast

pub returns : goal.returns
returns c =
    let s = widened c.args.power c.ranges.power in
    let g = above c.args.power c.ranges.power (rw s at c.if-p-lt0.false) in
    rw s g.same
