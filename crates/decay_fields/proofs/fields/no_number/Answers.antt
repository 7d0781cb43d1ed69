use mathlib.Core.Path.{ap}
use Rattle.paper_number.specs.declared.types.Reading.TheVariants.{Blank}
use Rattle.paper_decay_fields.specs.declared.types.Part.{Part}
use Rattle.decay_fields.proofs.fields.no_number.Goals as goal

pub returns : goal.returns
returns c = ap (λ (p : Part). record { part = p; value = Blank }) c.no_part-part.ensures
