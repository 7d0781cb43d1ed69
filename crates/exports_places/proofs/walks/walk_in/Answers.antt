use mathlib.Core.Path.{refl}
use Rattle.exports_places.proofs.walks.walk_in.Goals as goal

pub returns : goal.returns
returns c = rw c.answer_of-answer.ensures refl
