use Rattle.paper_canonical.proofs.Layouts.{few-behind}
use Prim.Native.Nat.{◌*◌, ◌-◌}
use Rattle.paper_number.proofs.Tens.{ten-pos}
use Rattle.paper_number.proofs.Count.{counts}
use Rattle.paper_canonical.proofs.Layouts.{down-all, down-some, least-of, most-of}
use Rattle.paper_number.specs.Count.{count}
use native.Mathlib.Omega.{arith}
use Rattle.canonical_layout.proofs.layout.layout_raised.Goals as goal

pub overflow_mul-most : goal.overflow_mul-most
overflow_mul-most c =
    let x = counts (c.args.t - c.args.d) (omega arith) in
    omega (arith, c.measured-digits.ensures.1, least-of (c.args.t - c.args.d) (omega arith))

pub overflow_sub-most : goal.overflow_sub-most
overflow_sub-most c = omega (arith, c.measured-digits.ensures.1, ten-pos (count (c.args.t - c.args.d) - 1))

pub returns-then-t-most : goal.returns-then-t-most
returns-then-t-most c =
    down-all c.args.d c.args.t c.requires.1.1
    c.measured-digits.result.digits (c.measured-digits.result.least * 10 - 1)
    c.measured-digits.ensures.0 (most-of (c.args.t - c.args.d)
    c.measured-digits.result.least c.measured-digits.ensures.1) c.if-t-most.true

pub overflow_sub-result : goal.overflow_sub-result
overflow_sub-result c =
    few-behind c.args.d c.args.t c.requires.1.1
    c.measured-digits.result.digits (c.measured-digits.result.least * 10 - 1)
    c.measured-digits.ensures.0 (most-of (c.args.t - c.args.d)
    c.measured-digits.result.least c.measured-digits.ensures.1)

pub returns : goal.returns
returns c =
    down-some c.args.d c.args.t c.requires.1.1
    c.measured-digits.result.digits (c.measured-digits.result.least * 10 - 1)
    c.measured-digits.ensures.0 (most-of (c.args.t - c.args.d)
    c.measured-digits.result.least c.measured-digits.ensures.1) c.if-t-most.false
