use mathlib.Core.Path.{refl, ap}
use Rattle.paper_cinda.specs.declared.types.Mass.TheVariants.{Number}
use Rattle.cinda_apart.proofs.apart.mass_of.Goals as goal

pub returns-then-is_many : goal.returns-then-is_many
returns-then-is_many c = rw (← c.is_many.ensures, c.if-is_many.true) refl

pub returns : goal.returns
returns c = rw (← c.is_many.ensures, c.if-is_many.false) (ap Number c.number_at-number.ensures)
