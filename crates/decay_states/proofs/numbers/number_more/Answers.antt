use borrow.Author.Tests.{eq-eqb, ne_eqb, lt-ltb, le-ltb}
use mathlib.Core.Path.{refl}
use Rattle.paper_decay.specs.Scan.{number_more}
use Rattle.decay_states.proofs.numbers.number_more.Goals as goal

pub returns-then-next-eq10 : goal.returns-then-next-eq10
unfolding number_more
returns-then-next-eq10 c = rw (c.nowhere.ensures, eq-eqb _ _ c.if-next-eq10.true) refl

pub returns-then-count-lt11 : goal.returns-then-count-lt11
unfolding number_more
returns-then-count-lt11 c = rw (c.standing.ensures, ne_eqb _ _ c.if-next-eq10.false, lt-ltb _ _ c.if-count-lt11.true) refl

pub returns : goal.returns
unfolding number_more
returns c = rw (c.nowhere-2.ensures, ne_eqb _ _ c.if-next-eq10.false, le-ltb _ _ c.if-count-lt11.false) refl
