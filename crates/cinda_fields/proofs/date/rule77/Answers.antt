use Rattle.paper_cinda.specs.Rules.{rule77}
use mathlib.Core.Path.{refl}
use Rattle.cinda_fields.proofs.date.rule77.Goals as goal

pub returns-then-is_date : goal.returns-then-is_date
unfolding rule77
returns-then-is_date c = rw (← c.is_date.ensures, c.if-is_date.true) refl

pub returns : goal.returns
unfolding rule77
returns c = rw (← c.is_date.ensures, c.if-is_date.false) refl
