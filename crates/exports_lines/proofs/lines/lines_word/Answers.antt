use mathlib.Core.Path.{refl}
use Rattle.exports_lines.specs.Lines.{lines_word}
use Rattle.exports_lines.proofs.lines.lines_word.Goals as goal

pub returns : goal.returns
unfolding lines_word
returns c = refl
