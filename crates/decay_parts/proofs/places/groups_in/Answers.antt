use mathlib.Core.Path.{ap}
use Prim.Native.Nat.{ℕ, ◌/◌}
use Rattle.paper_decay_fields.specs.Asked.{groups_in}
use Rattle.decay_parts.proofs.places.groups_in.Goals as goal

pub returns : goal.returns
unfolding groups_in
returns c = ap (λ (n : ℕ). n / 3) c.fields_in-fields.ensures
