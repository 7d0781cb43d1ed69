use Rattle.paper_canonical.proofs.Numbers.{flat-power}
use Rattle.canonical.proofs.Answers.{answer-number, in-eleven, not_eleven}
use Rattle.paper_canonical.specs.declared.types.WriteError.TheVariants.{NotEleven}
use Rattle.std.specs.Prelude.{Err}
use Rattle.paper_number.specs.Value.{value_of}
use Rattle.canonical.proofs.write.write_number.Goals as goal

pub returns-then-out-ne11 : goal.returns-then-out-ne11
returns-then-out-ne11 c =
    let a = not_eleven c.args.out.now
    (value_of c.args.negative c.args.coefficient
    c.args.power) c.if-out-ne11.true in
    record {
      value = a.0;
      out_after = a.1;
      result_value = answer-number c.args.out.now
          (value_of c.args.negative c.args.coefficient
          c.args.power) (Err NotEleven) a.0;
    }

pub returns : goal.returns
returns c =
    let a = in-eleven c.args.out.now
    (value_of c.args.negative
    c.args.coefficient
    c.args.power) c.write_columns.result
    c.write_columns.new.out c.if-out-ne11.false
    (let e = rw (flat-power c.args.power c.ranges.power) at c.write_columns.ensures in (e.value, e.out_after)) in
    record {
      value = a.0;
      out_after = a.1;
      result_value = answer-number c.args.out.now
          (value_of c.args.negative
          c.args.coefficient
          c.args.power) c.write_columns.result
          a.0;
    }
