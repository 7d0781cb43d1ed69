use mathlib.Core.Path.{refl}
use Rattle.laws.specs.Members.{list_of}
use Rattle.paper_number.specs.Form.{kind_table, next_table}
use Rattle.number.proofs.form.NumberTables.new.Goals as goal

-- the one test of each table, computed for all entries
pub invariant_of-result : goal.invariant_of-result
unfolding kind_table next_table list_of
invariant_of-result c = record { kinds_right = refl; nexts_right = refl }
