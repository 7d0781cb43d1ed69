use Rattle.decay_parts.proofs.places.types_at.Goals as goal

pub returns : goal.returns
returns c = c.field_at.ensures
