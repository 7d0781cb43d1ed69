use mathlib.Core.Path.{refl}
use borrow.Author.Tests.{le-leb, lt-leb}
use Rattle.decay_code.proofs.answer.is_placed.Goals as goal

pub returns-then-number-lt50 : goal.returns-then-number-lt50
returns-then-number-lt50 c = rw (lt-leb 50 _ c.if-number-lt50.true) refl

pub returns : goal.returns
returns c = rw (le-leb 50 _ c.if-number-lt50.false) refl
