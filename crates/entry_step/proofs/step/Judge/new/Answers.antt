use Rattle.entry_step.proofs.step.Judge.new.Goals as goal

pub returns : goal.returns
returns c = rw c.start_track-track.ensures
