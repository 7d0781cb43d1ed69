use mathlib.Core.Path.{ap, ◌∙◌}
use Rattle.exports_lines.specs.Lines.{lines_word}
use Rattle.exports_cinda.proofs.lines.x4_cinda_back.Goals as goal

pub returns : goal.returns
returns c =
    let e = c.write_back.ensures in
    record {
      value = c.lines_word.ensures ∙ ap lines_word e.value;
      out_after = e.out_after;
    }
