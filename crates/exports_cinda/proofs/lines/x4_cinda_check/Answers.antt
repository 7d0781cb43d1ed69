use mathlib.Core.Path.{ap, ◌∙◌}
use Rattle.exports_lines.specs.Lines.{lines_word}
use Rattle.exports_cinda.proofs.lines.x4_cinda_check.Goals as goal

pub returns : goal.returns
returns c = c.lines_word.ensures ∙ ap lines_word c.check.ensures
