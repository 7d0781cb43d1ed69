use mathlib.Core.Bool.{true, false}
use mathlib.Core.Path.{◌≡◌, sym, ◌∙◌}
use mir.Syntax.{w32}
use mir.Val.{SFits}
use mir.ValLaws.{to_z-of_z}
use Rattle.std.proofs.Common.{Some, rules}
use Rattle.paper_number.proofs.Sums.{power-sum}
use Rattle.number_value.proofs.decimal.power_of.Goals as goal

pub returns-in-Some-true : goal.returns-in-Some-true
returns-in-Some-true c =
    let f : SFits w32 c.difference.result = record { sfits = c.difference.type_inv } in
    let e : c.args.exponent ≡ Some (record { below = true; size = c.in-Some-true.size }) = search rules in
    to_z-of_z w32 _ f
    ∙ (c.difference.ensures ∙ rw e (sym (power-sum true c.in-Some-true.size c.args.places c.args.zeros)))

pub returns-in-Some-false : goal.returns-in-Some-false
returns-in-Some-false c =
    let f : SFits w32 c.difference-in-Some-false.result = record { sfits = c.difference-in-Some-false.type_inv } in
    let e : c.args.exponent ≡ Some (record { below = false; size = c.in-Some-false.size }) = search rules in
    to_z-of_z w32 _ f
    ∙ (c.difference-in-Some-false.ensures ∙ rw e (sym (power-sum false c.in-Some-false.size c.args.places c.args.zeros)))
