use Rattle.cinda_columns.proofs.integer.is_integer_at.Goals as goal

pub returns : goal.returns
returns c = rw (← c.integer_at.ensures) c.is_count.ensures
