use mathlib.Core.Path.{refl}
use Rattle.files_roles.proofs.role.begins.Goals as goal

pub returns-in-Before : goal.returns-in-Before
returns-in-Before c = rw c.in-Before.is refl

pub returns-in-Within : goal.returns-in-Within
returns-in-Within c = rw (c.in-Within.is, ← c.name_of-k.ensures) refl

pub returns-in-Behind : goal.returns-in-Behind
returns-in-Behind c = rw c.in-Behind.is refl
