use mathlib.Core.Path.{ap}
use Rattle.paper_decay_fields.specs.declared.types.NumberPart.{NumberPart}
use Rattle.decay_fields.proofs.fields.no_group.Goals as goal

pub returns : goal.returns
returns c = ap (λ (n : NumberPart). record { types = 0; energies = 0; abundance = n }) c.no_number-abundance.ensures
