use mathlib.Core.Path.{◌∙◌, ap}
use Rattle.exports_simple.specs.Doubles.{double_word}
use Rattle.exports_doubles.proofs.doubles.x4_index_double.Goals as goal

pub returns : goal.returns
returns c =
    let said = c.double_by_index-answered.ensures.value in
    record {
      value = c.put_answer.ensures.value ∙ ap double_word said;
      value_after = rw said at c.put_answer.ensures.out_after;
    }
