use mathlib.Core.Path.{refl}
use Rattle.questions_fields.proofs.fields.refused_value.Goals as goal

pub returns : goal.returns
returns c = rw c.answer_of.ensures refl
