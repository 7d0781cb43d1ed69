use Prim.Native.Nat.{◌≤◌}
use Rattle.laws.proofs.Search.{Scan}
use Rattle.laws.specs.Search.{first}
use Rattle.rules_flags.specs.Below.{fault_below}
use Rattle.rules_flags.specs.Lent.{RecordAt, WholeRecords}
use Rattle.rules_flags.proofs.flags.first_fault.Given as goal

abbrev pub invariant-loop-k : goal.invariant-loop-k
invariant-loop-k l =
    WholeRecords l.table × RecordAt l.from × (l.n ≤ 6) × Scan (fault_below l.bib l.bib001 l.table l.from l.fs)
    (first (fault_below l.bib l.bib001 l.table l.from l.fs) 0 l.n) l.k l.n
