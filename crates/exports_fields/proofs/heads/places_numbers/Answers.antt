use mathlib.Core.Path.{refl}
use Rattle.exports_fields.proofs.heads.places_numbers.Goals as goal

pub returns : goal.returns
returns c = refl
