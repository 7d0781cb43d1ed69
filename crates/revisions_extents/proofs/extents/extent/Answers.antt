use Rattle.paper_revisions.specs.Extents.{extent_of}
use Rattle.revisions_extents.proofs.extents.extent.Goals as goal

pub returns : goal.returns
unfolding extent_of
returns c = rw (c.past_from-past.ensures.value, c.first_of-from.ensures.value)
