use mathlib.Core.Path.{◌∙◌, ap}
use Rattle.paper_double.proofs.Powers.{flat-power}
use Rattle.paper_double.specs.declared.types.Simple.{Simple}
use Rattle.paper_double.specs.Double.{simple_said}
use Rattle.exports_reals.proofs.hand.x4_as_double_kind.Goals as goal

pub returns : goal.returns
returns c =
    let a = c in
    let said = rw (flat-power a.args.power a.ranges.power) at c.simple_in-value.ensures in
    c.kind_of.ensures.value ∙ ap (λ (x : Simple). (simple_said x).kind) said
