use Rattle.laws.specs.Members.{any_of, list_of}
use Rattle.paper_record.specs.Class.{class_of, class_table}
use Rattle.paper_record.proofs.ClassTable.{by_parts}
use mathlib.Core.Path.{refl}
use Rattle.classes.proofs.class.Classes.new.Goals as goal

-- the one test of the table, computed for all 256 entries
pub invariant_of-result : goal.invariant_of-result
unfolding class_table list_of class_of any_of
invariant_of-result c =
    record { same = by_parts 128 128 0 _ (by_parts 64 64 0 _ refl refl) (by_parts 64 64 128 _ refl refl) }

pub returns : goal.returns
returns c = (invariant_of-result c.before).same
