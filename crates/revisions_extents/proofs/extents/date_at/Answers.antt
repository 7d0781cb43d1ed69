use Rattle.paper_revisions.specs.Extents.{date_at}
use mathlib.Core.Path.{◌∙◌, refl}
use native.Mathlib.Nat.{add-sub_cancel_left}
use Rattle.revisions_extents.proofs.extents.date_at.Goals as goal

pub returns : goal.returns
unfolding date_at
returns c = c.number_in-date.ensures.value ∙ rw (c.field-f.ensures, add-sub_cancel_left) refl
