use Rattle.entry_step.specs.ByRanges.{judge_after}
use Rattle.entry_step.proofs.step.Judge.after.Goals as goal

pub returns : goal.returns
unfolding judge_after
returns c = rw (c.phase_after-phase.ensures, c.track_after-track.ensures, c.ranges_after-ranges.ensures)
