use mathlib.Core.Path.{◌∙◌, ap}
use Rattle.paper_double_asking.specs.Ask.{as_double, double_by_index, double_said}
use Rattle.double_rows.proofs.rows.double_by_index.Goals as goal

pub returns : goal.returns
unfolding double_by_index
returns c =
    let same = c.as_double.ensures.value ∙ ap as_double c.value_by_index-v.ensures in
    record {
      value = same;
      result_value = ap double_said same;
    }
