use mathlib.Core.Path.{refl}
use Rattle.exports_places.proofs.walks.walk_numbers.Goals as goal

pub returns : goal.returns
returns c = refl
