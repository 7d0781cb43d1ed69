use Rattle.entry_step.specs.ByRanges.{finish_of}
use Rattle.entry_step.proofs.step.Judge.finish.Goals as goal

pub returns-then-is_done : goal.returns-then-is_done
unfolding finish_of
returns-then-is_done c = rw (← c.is_done.ensures, c.if-is_done.true)

pub returns : goal.returns
unfolding finish_of
returns c =
    rw (← c.is_done.ensures, c.if-is_done.false, ← c.record_of-at.ensures)
    c.refused.ensures
