use mathlib.Core.Path.{◌∙◌, ap}
use Rattle.paper_double_asking.specs.Ask.{as_double, double_asked, double_said}
use Rattle.double_asking.proofs.asking.double.Goals as goal

pub returns : goal.returns
unfolding double_asked
returns c =
    let same = c.as_double.ensures.value ∙ ap as_double c.value-v.ensures.value in
    record {
      value = same;
      result_value = ap double_said same;
    }
