use Rattle.paper_cinda.specs.Rules.{rule73}
use mathlib.Core.Path.{refl}
use Rattle.cinda_rules.proofs.rules.rule73.Goals as goal

pub returns-then-is_operation : goal.returns-then-is_operation
unfolding rule73
returns-then-is_operation c = rw (← c.is_operation.ensures, c.if-is_operation.true) refl

pub returns : goal.returns
unfolding rule73
returns c = rw (← c.is_operation.ensures, c.if-is_operation.false) refl
