use Rattle.decay_parts.proofs.places.energies_at.Goals as goal

pub returns : goal.returns
returns c = c.field_at.ensures
