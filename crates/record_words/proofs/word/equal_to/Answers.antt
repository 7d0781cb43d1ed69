use mathlib.Core.Path.{◌∙◌}
use Rattle.paper_record.proofs.EqualColumns.{equal-parts}
use Rattle.record_words.proofs.word.equal_to.Goals as goal

pub returns : goal.returns
returns c = c.eq.ensures ∙ equal-parts c.args.w c.args.a.now c.args.b.now c.requires.w_in_bounds c.requires.w_in_bounds_2
