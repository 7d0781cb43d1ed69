use Rattle.paper_canonical.proofs.Numbers.{flat-power}
use mathlib.Core.Path.{◌∙◌}
use Rattle.exports.proofs.numbers.x4_write_number.Goals as goal

pub returns-in-Ok : goal.returns-in-Ok
returns-in-Ok c =
    let a = c.args in
    let e = rw (flat-power a.power c.ranges.power) at c.write_number.ensures in
    record {
      value = rw c.in-Ok.is at e.result_value;
      out_after = e.out_after;
    }

pub returns-in-Err : goal.returns-in-Err
returns-in-Err c =
    let a = c.args in
    let e = rw (flat-power a.power c.ranges.power) at c.write_number.ensures in
    record {
      value = c.from.ensures ∙ c.number_of.ensures ∙ rw c.in-Err.is at e.result_value;
      out_after = e.out_after;
    }
