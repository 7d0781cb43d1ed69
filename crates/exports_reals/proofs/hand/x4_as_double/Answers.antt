use mathlib.Core.Path.{◌∙◌, ap}
use Rattle.paper_double.proofs.Powers.{flat-power}
use Rattle.exports_simple.specs.Doubles.{double_in}
use Rattle.exports_reals.proofs.hand.x4_as_double.Goals as goal

pub returns : goal.returns
returns c =
    let a = c in
    let said = rw (flat-power a.args.power a.ranges.power) at c.simple_in-value.ensures in
    c.double_in.ensures ∙ ap double_in said
