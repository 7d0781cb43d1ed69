use mathlib.Core.Path.{refl, ap, ◌∙◌}
use mir.Syntax.{w32}
use mir.Val.{SFits}
use mir.ValLaws.{to_z-of_z}
use Rattle.std.proofs.Common.{arith, rules}
use borrow.Author.Tests.{eq-eqb}
use Rattle.paper_number.proofs.Zeros.{made-value, zeros-few}
use Rattle.paper_number.specs.Value.{value_of}
use Rattle.paper_number.specs.declared.types.Trim.{Trim}
use Rattle.number_value.proofs.decimal.value.Goals as goal

pub returns-then-x-eq0 : goal.returns-then-x-eq0
unfolding value_of
returns-then-x-eq0 c = rw (eq-eqb _ _ c.if-x-eq0.true) refl

pub power_of-power-requires : goal.power_of-power-requires
power_of-power-requires c =
    let z = zeros-few c.args.x.number (omega arith) (omega arith) in
    (c.requires.1, c.requires.0, omega (arith, ap (λ (t : Trim). t.zeros) c.without_zeros-t.ensures))

pub returns : goal.returns
returns c =
    let f : SFits w32 c.power_of-power.result = search rules in
    made-value c.args.x.negative c.args.x.number _ _ c.without_zeros-t.result c.without_zeros-t.ensures c.if-x-eq0.false
    (to_z-of_z w32 _ f ∙ c.power_of-power.ensures)
