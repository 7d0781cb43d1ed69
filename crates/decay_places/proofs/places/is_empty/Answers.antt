use borrow.Author.Tests.{eq-eqb, ne_eqb}
use mathlib.Core.Path.{refl}
use Rattle.paper_decay.specs.Scan.{is_empty}
use Rattle.decay_places.proofs.places.is_empty.Goals as goal

pub returns-then-s : goal.returns-then-s
unfolding is_empty
returns-then-s c = rw c.if-s.true refl

pub returns-then-s-eq0 : goal.returns-then-s-eq0
unfolding is_empty
returns-then-s-eq0 c = rw (c.if-s.false, eq-eqb _ _ c.if-s-eq0.true) refl

pub returns : goal.returns
unfolding is_empty
returns c = rw (c.if-s.false, ne_eqb _ _ c.if-s-eq0.false) refl
