use Rattle.exports_fields.specs.Parts.{value_stored}
use Rattle.exports_fields.proofs.parts.put_value.Goals as goal

pub returns : goal.returns
unfolding value_stored
returns c = c.put_reading.ensures.out_after
