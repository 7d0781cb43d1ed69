use mathlib.Core.Path.{refl}
use Rattle.exports_picks.proofs.picks.of_entry.Goals as goal

pub returns-then-revision : goal.returns-then-revision
returns-then-revision c = rw c.if-revision.true refl

pub returns : goal.returns
returns c = rw c.if-revision.false refl
