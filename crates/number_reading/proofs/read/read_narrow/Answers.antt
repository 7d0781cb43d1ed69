use mathlib.Core.Path.{ap, ◌∙◌}
use Rattle.paper_number.specs.Spelt.{reading_of}
use Rattle.paper_number.proofs.SpeltReading.{spelt-says}
use Rattle.number_reading.proofs.read.read_narrow.Goals as goal

pub returns : goal.returns
returns c = c.reading_of.ensures ∙ ap reading_of c.spelt_in.ensures.0 ∙ spelt-says _
