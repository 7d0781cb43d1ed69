use Rattle.revisions_pick.proofs.PickedBy.{picked-lies}
use Rattle.paper_revisions.specs.Picking.{picked_bytes}
use mathlib.Core.Path.{◌∙◌, ap}
use Rattle.revisions.proofs.subentry.subentry_part.Goals as goal

pub part_of_one-requires : goal.part_of_one-requires
part_of_one-requires c = rw c.subentry-part.ensures (picked-lies _ _ _)

pub returns : goal.returns
returns c =
    let a = c.args in
    record {
      behind = rw (← c.subentry-part.ensures) c.part_of_one.ensures.behind;
      result_value = c.part_of_one.ensures.result_value ∙ ap (picked_bytes a.held.now a.revision.now) c.subentry-part.ensures;
    }
