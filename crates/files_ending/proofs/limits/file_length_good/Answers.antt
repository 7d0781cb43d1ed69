use mathlib.Core.Path.{refl}
use Rattle.paper_files.specs.File.{file_length_good}
use borrow.Author.Tests.{eq-eqb, ne_eqb}
use Rattle.files_ending.proofs.limits.file_length_good.Goals as goal

pub returns-then-n-eq0 : goal.returns-then-n-eq0
unfolding file_length_good
returns-then-n-eq0 c = rw (eq-eqb _ _ c.if-n-eq0.true)

pub returns-then-n-ne0 : goal.returns-then-n-ne0
unfolding file_length_good
returns-then-n-ne0 c = rw (ne_eqb _ _ c.if-n-eq0.false, ne_eqb _ _ c.if-n-ne0.true)

pub returns : goal.returns
unfolding file_length_good
returns c = rw (ne_eqb _ _ c.if-n-eq0.false, eq-eqb _ _ c.if-n-ne0.false) refl
