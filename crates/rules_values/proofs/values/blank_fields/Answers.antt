use mathlib.Core.Path.{refl}
use Rattle.paper_record.proofs.FoundValues.{values-fault}
use mathlib.Core.Bool.{true}
use Rattle.rules_values.proofs.values.blank_fields.Goals as goal

pub returns : goal.returns
returns c = rw (← values-fault true 0 _, ← c.values_of-filled.ensures) refl
