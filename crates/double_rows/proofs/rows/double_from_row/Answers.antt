use mathlib.Core.Path.{◌∙◌, ap}
use Rattle.paper_double_asking.specs.Ask.{as_double, double_from_row, double_said}
use Rattle.double_rows.proofs.rows.double_from_row.Goals as goal

pub returns : goal.returns
unfolding double_from_row
returns c =
    let same = c.as_double.ensures.value ∙ ap as_double c.value_from_row-v.ensures in
    record {
      value = same;
      result_value = ap double_said same;
    }
