use mathlib.Core.Path.{◌∙◌, refl}
use Rattle.revisions_pick.proofs.handing.part_of_one.Goals as goal

pub bytes_from-requires : goal.bytes_from-requires
bytes_from-requires c = rw c.whichever-whole.ensures.result_value c.requires.inside

pub returns : goal.returns
returns c =
    record {
      behind = rw (← c.whichever-whole.ensures.ref_ptr_value) c.bytes_from.ensures.behind;
      result_value = c.bytes_from.ensures.result_value ∙ rw c.whichever-whole.ensures.result_value refl;
    }
