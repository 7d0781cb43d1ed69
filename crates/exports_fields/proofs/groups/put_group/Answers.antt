use mathlib.Core.Path.{refl}
use Rattle.exports_fields.specs.Groups.{group_stored}
use Rattle.exports_fields.proofs.groups.put_group.Goals as goal

pub returns : goal.returns
unfolding group_stored
returns c =
    record {
      value = c.group_word.ensures;
      numbers_after = refl;
      abundance_after = c.put_value.ensures;
    }
