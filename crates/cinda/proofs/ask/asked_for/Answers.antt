use Rattle.cinda.proofs.ask.asked_for.Goals as goal

pub asked-requires : goal.asked-requires
asked-requires c = c.check-checked.ensures

pub returns : goal.returns
returns c = c.asked.ensures
