use Rattle.laws.specs.Members.{join_of}
use Rattle.paper_record.specs.Identifier.{name_table}
use mathlib.Core.Path.{refl}
use Rattle.record_names.proofs.identifier.Names.new.Goals as goal

pub invariant_of-result : goal.invariant_of-result
unfolding name_table join_of
invariant_of-result c = record { same = refl }
