use Rattle.paper_cinda.specs.Rules.{good_z}
use Rattle.cinda_target.proofs.target.is_good_z.Goals as goal

pub returns-then-is_many : goal.returns-then-is_many
unfolding good_z
returns-then-is_many c = rw (← c.is_many.ensures, c.if-is_many.true) c.is_nines.ensures

pub returns : goal.returns
unfolding good_z
returns c = rw (← c.is_many.ensures, c.if-is_many.false) c.is_integer_at.ensures
