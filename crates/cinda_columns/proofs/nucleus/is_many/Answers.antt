use Rattle.paper_cinda.specs.Rules.{is_many}
use Rattle.cinda_columns.proofs.nucleus.is_many.Goals as goal

pub returns : goal.returns
unfolding is_many
returns c = c.equal_to.ensures
