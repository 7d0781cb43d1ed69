use Rattle.paper_files.specs.File.{file_end}
use mathlib.Core.Path.{refl}
use Rattle.files_ending.proofs.ending.ending_of.Goals as goal

pub returns-in-Before : goal.returns-in-Before
unfolding file_end
returns-in-Before c = rw (c.in-Before.is, ← c.record_of-at.ensures) c.refused.ensures

pub returns-in-Within : goal.returns-in-Within
unfolding file_end
returns-in-Within c =
    rw (c.in-Within.is, ← c.record_of-at.ensures) c.refused-in-Within.ensures

pub returns-in-Behind : goal.returns-in-Behind
unfolding file_end
returns-in-Behind c = rw c.in-Behind.is refl
