use Rattle.index_walk.specs.Room.{rows_behind}
use mathlib.Core.Path.{refl}
use Rattle.index_walk.proofs.walk.rows_behind.Goals as goal

pub returns-then-opens_subentry : goal.returns-then-opens_subentry
unfolding rows_behind
returns-then-opens_subentry c = rw (← c.opens_subentry.ensures, c.if-opens_subentry.true) refl

pub returns : goal.returns
unfolding rows_behind
returns c = rw (← c.opens_subentry.ensures, c.if-opens_subentry.false) refl
