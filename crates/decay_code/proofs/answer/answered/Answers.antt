use mathlib.Core.Path.{refl}
use Rattle.decay_code.proofs.answer.answered.Goals as goal

pub returns-then-is_placed : goal.returns-then-is_placed
returns-then-is_placed c = rw (← c.is_placed.ensures, c.if-is_placed.true) refl

pub returns : goal.returns
returns c = rw (← c.is_placed.ensures, c.if-is_placed.false) refl
