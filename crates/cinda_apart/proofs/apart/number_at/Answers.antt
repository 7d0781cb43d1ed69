use mathlib.Core.Path.{◌∙◌, ap}
use Rattle.paper_record.specs.System.{number_of}
use Rattle.cinda_apart.proofs.apart.number_at.Goals as goal

pub returns : goal.returns
returns c = c.number_of.ensures ∙ ap number_of c.integer_at-integer.ensures
