use Rattle.cinda.proofs.ask.line.Goals as goal

pub line_asked-requires : goal.line_asked-requires
line_asked-requires c = c.asked_for-answer.ensures

pub returns : goal.returns
returns c = c.line_asked.ensures
