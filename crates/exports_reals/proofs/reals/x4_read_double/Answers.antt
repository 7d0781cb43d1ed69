use mathlib.Core.Path.{◌∙◌, ap}
use Rattle.paper_number.specs.declared.types.FieldRead.{FieldRead}
use Rattle.paper_double.specs.Double.{doubled}
use Rattle.exports_simple.specs.Doubles.{field_word, double_stored}
use Rattle.exports_reals.proofs.reals.x4_read_double.Goals as goal

pub returns : goal.returns
returns c =
    let read = c.read_number-said.ensures.value in
    let simple = c.doubled-simple.ensures.value in
    record {
      value = c.field_word_of.ensures ∙ ap field_word read;
      value_after = c.put_double.ensures ∙ ap (double_stored _) (simple ∙ ap (λ (f : FieldRead). doubled f.reading) read);
    }
