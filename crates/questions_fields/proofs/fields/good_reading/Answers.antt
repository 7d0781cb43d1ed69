use mathlib.Core.Path.{refl}
use Rattle.questions_fields.proofs.fields.good_reading.Goals as goal

pub returns-in-Blank : goal.returns-in-Blank
returns-in-Blank c = rw c.in-Blank.is refl

pub returns-in-Number : goal.returns-in-Number
returns-in-Number c = rw c.in-Number.is refl

pub returns-in-Refused : goal.returns-in-Refused
returns-in-Refused c = rw c.in-Refused.is refl
