use mathlib.Core.Path.{◌∙◌, ap}
use Rattle.paper_decay_fields.specs.Parts.{or_none}
use Rattle.decay_fields.proofs.fields.nuclide_word.Goals as goal

pub returns : goal.returns
returns c = c.or_none.ensures ∙ ap or_none c.word_in-word.ensures.0
