use Rattle.paper_files.specs.File.{ordinal_of}
use borrow.Author.Tests.{eq-eqb, ne_eqb}
use mathlib.Core.Path.{refl}
use Rattle.files_roles.proofs.role.ordinal_of.Goals as goal

pub returns-then-own-ne0 : goal.returns-then-own-ne0
unfolding ordinal_of
returns-then-own-ne0 c = rw (ne_eqb _ _ c.if-own-ne0.true) refl

pub returns-then-begins : goal.returns-then-begins
unfolding ordinal_of
returns-then-begins c = rw (eq-eqb _ _ c.if-own-ne0.false, ← c.begins.ensures, c.if-begins.true) refl

pub returns : goal.returns
unfolding ordinal_of
returns c = rw (eq-eqb _ _ c.if-own-ne0.false, ← c.begins.ensures, c.if-begins.false) refl
