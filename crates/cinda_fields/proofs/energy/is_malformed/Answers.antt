use mathlib.Core.Path.{refl}
use Rattle.cinda_fields.proofs.energy.is_malformed.Goals as goal

pub returns-in-Blank : goal.returns-in-Blank
returns-in-Blank c = rw c.in-Blank.is refl

pub returns-in-Number : goal.returns-in-Number
returns-in-Number c = rw c.in-Number.is refl

pub returns-in-Malformed : goal.returns-in-Malformed
returns-in-Malformed c = rw c.in-Malformed.is refl
