use mathlib.Core.Path.{ap, ◌∙◌}
use Rattle.exports_words.specs.Words.{answer_word}
use Rattle.exports_file_copies.proofs.copying.x4_copy_file.Goals as goal

pub returns : goal.returns
returns c =
    let e = c.copy_file.ensures in
    record {
      value = c.answer_word.ensures ∙ ap answer_word e.0;
      out_after = e.1;
    }
