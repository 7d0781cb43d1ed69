use mathlib.Core.Path.{refl}
use Rattle.decay_records.proofs.records.turned_on.Goals as goal

pub returns : goal.returns
returns c = rw c.said-none.ensures refl
