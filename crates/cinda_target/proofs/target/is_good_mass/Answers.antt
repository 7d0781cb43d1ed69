use Rattle.paper_cinda.specs.Rules.{good_mass}
use Rattle.cinda_target.proofs.target.is_good_mass.Goals as goal

pub returns-then-is_many : goal.returns-then-is_many
unfolding good_mass
returns-then-is_many c = rw (← c.is_many.ensures, c.if-is_many.true)

pub returns : goal.returns
unfolding good_mass
returns c = rw (← c.is_many.ensures, c.if-is_many.false) c.is_integer_at.ensures
