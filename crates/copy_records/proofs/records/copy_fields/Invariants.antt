use Prim.Native.Nat.{◌*◌, ◌≤◌}
use Rattle.paper_copy.specs.CopyField.{copy_field, number_in}
use Rattle.paper_copy.specs.Replaced.{mask, replaced}
use Rattle.rules_flags.specs.Lent.{WholeRecords}
use lib.ListN.{length}
use lib.Seq.{paste}
use mathlib.Core.Path.{◌≡◌}
use Rattle.copy_records.proofs.records.copy_fields.Given as goal

abbrev pub invariant-loop-k : goal.invariant-loop-k
invariant-loop-k l =
    WholeRecords l.table × (l.k ≤ 6) × (length l.rec ≡ 81) × (length l.out ≡ length l.initial.out)
    × (l.out ≡ paste l.initial.out l.at (replaced copy_field (mask (number_in l.table l.t l.role) 0 6) l.rec) (l.k * 11))
