use Rattle.paper_canonical.proofs.Numbers.{flat-power}
use Rattle.canonical.proofs.Answers.{done-wide, refused-wide}
use Rattle.paper_canonical.proofs.Preparing.{prepared-sound}
use Rattle.paper_canonical.proofs.Layouts.{ready}
use lib.ListN.{length}
use native.Mathlib.Omega.{arith}
use Rattle.canonical.proofs.write.write_columns.Goals as goal

pub layout_columns-requires : goal.layout_columns-requires
layout_columns-requires c =
    let e = rw (flat-power c.args.power
    c.ranges.power) at c.prepare-negative.ensures in
    let s = prepared-sound c.args.negative c.args.coefficient
    c.args.power c.prepare-negative.result e (omega arith)
    (omega (arith, c.ranges.power.sfits)) in
    (s.whole, (s.part, s.exponent))

pub returns-then-out-layout_columns : goal.returns-then-out-layout_columns
returns-then-out-layout_columns c =
    let e = rw (flat-power c.args.power
    c.ranges.power) at c.prepare-negative.ensures in
    let both = refused-wide c.args.out.now
    c.args.negative
    c.args.coefficient
    c.args.power c.prepare-negative.result e
    (rw c.layout_columns.ensures at c.if-out-layout_columns.true) in
    record { value = both.0; out_after = both.1 }

pub put_field-requires : goal.put_field-requires
put_field-requires c =
    let e = rw (flat-power c.args.power
    c.ranges.power) at
    c.prepare-negative.ensures in
    ready c.prepare-negative.result.negative
    c.prepare-negative.result.coefficient
    c.prepare-negative.result.layout
    (length c.args.out.now)
    c.requires
    (rw c.layout_columns.ensures at c.if-out-layout_columns.false)
    (prepared-sound c.args.negative
    c.args.coefficient
    c.args.power
    c.prepare-negative.result e (omega arith)
    (omega (arith, c.ranges.power.sfits)))

pub returns : goal.returns
returns c =
    let e = rw (flat-power c.args.power
    c.ranges.power) at
    c.prepare-negative.ensures in
    let both = done-wide c.args.out.now
    c.args.negative
    c.args.coefficient
    c.args.power
    c.prepare-negative.result e
    c.put_field.new.out (rw c.layout_columns.ensures at
    c.if-out-layout_columns.false) c.put_field.ensures.out_after in
    record { value = both.0; out_after = both.1 }
