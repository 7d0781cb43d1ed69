use mathlib.Core.Path.{◌≡◌, refl}
use Rattle.paper_number.specs.declared.types.Form.TheVariants.{Number}
use Rattle.record_values.proofs.numbers.is_number_form.Goals as goal

pub returns-in-Number : goal.returns-in-Number
returns-in-Number c =
    let e : c.args.form ≡ Number = c.in-Number.is in
    rw e refl
