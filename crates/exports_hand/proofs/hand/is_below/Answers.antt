use mathlib.Core.Path.{refl}
use Rattle.exports_hand.proofs.hand.is_below.Goals as goal

pub returns-then-negative : goal.returns-then-negative
returns-then-negative c = rw c.if-negative.true refl
