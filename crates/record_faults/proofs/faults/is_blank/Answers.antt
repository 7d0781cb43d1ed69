use Rattle.record_faults.proofs.faults.is_blank.Goals as goal

pub returns : goal.returns
returns c = c.blank_to.ensures
