use mathlib.Core.Path.{refl}
use Rattle.double_once.proofs.once.signed.Goals as goal

pub returns-then-negative : goal.returns-then-negative
returns-then-negative c = rw c.if-negative.true refl
