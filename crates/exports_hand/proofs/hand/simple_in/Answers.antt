use mathlib.Core.Path.{◌∙◌, ap}
use mathlib.Core.Bool.{Bool}
use lib.IntN.{ℤ}
use Rattle.paper_number.specs.Value.{decimal}
use Rattle.paper_number.specs.declared.types.Reading.TheVariants.{Number}
use Rattle.paper_double.specs.Double.{doubled}
use Rattle.paper_double.proofs.Powers.{flat-power}
use Rattle.exports_hand.proofs.hand.simple_in.Goals as goal

pub returns : goal.returns
returns c =
    let a = c.args in
    let below = c.is_below-below.ensures in
    c.doubled.ensures.value
    ∙ ap (λ (p : ℤ). doubled (Number (decimal c.is_below-below.result a.coefficient p)))
    (flat-power a.power c.ranges.power)
    ∙ ap (λ (b : Bool). doubled (Number (decimal b a.coefficient a.power))) below
