use Rattle.paper_files.specs.File.{file_role}
use borrow.Author.Tests.{eq-eqb, ne_eqb}
use mathlib.Core.Path.{refl}
use Rattle.files_roles.proofs.role.role_of.Goals as goal

pub returns-then-k-eq-TRANS : goal.returns-then-k-eq-TRANS
unfolding file_role
returns-then-k-eq-TRANS c =
    rw (c.in-Before.is, ← c.name_of-k.ensures, eq-eqb _ _ c.if-k-eq-TRANS.true) refl

pub returns-else-k-eq-TRANS : goal.returns-else-k-eq-TRANS
unfolding file_role
returns-else-k-eq-TRANS c =
    rw (c.in-Before.is, ← c.name_of-k.ensures, ne_eqb _ _ c.if-k-eq-TRANS.false) refl

pub returns-in-Within : goal.returns-in-Within
unfolding file_role
returns-in-Within c = rw c.in-Within.is c.role_within.ensures

pub returns-in-Behind : goal.returns-in-Behind
unfolding file_role
returns-in-Behind c = rw c.in-Behind.is refl
