use Rattle.cinda_columns.proofs.nucleus.is_nines.Goals as goal

pub returns : goal.returns
returns c = c.equal_to.ensures
