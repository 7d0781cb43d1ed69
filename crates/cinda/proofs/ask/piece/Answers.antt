use Rattle.cinda.proofs.ask.piece.Goals as goal

pub piece_asked-requires : goal.piece_asked-requires
piece_asked-requires c = c.asked_for-answer.ensures

pub returns : goal.returns
returns c = c.piece_asked.ensures
