use mathlib.Core.Path.{ap, ◌∙◌}
use Rattle.paper_number.specs.Form.{form_refusal}
use Rattle.paper_number.proofs.Laws.{form-refusal}
use Rattle.number.proofs.form.NumberTables.form_of_field.Goals as goal

pub returns : goal.returns
returns c =
    let e = c.form_of_columns.ensures in
    record {
      value = e;
      result_value = ap form_refusal e ∙ form-refusal _;
    }
