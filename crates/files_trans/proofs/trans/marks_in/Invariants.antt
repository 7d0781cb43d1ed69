use Prim.Native.Nat.{◌≤◌}
use Rattle.paper_files.specs.Outside.{no_mark}
use Rattle.laws.proofs.Search.{Scan}
use Rattle.laws.specs.Search.{first}
use Rattle.files_trans.proofs.trans.marks_in.Given as goal

abbrev pub invariant-loop-i : goal.invariant-loop-i
invariant-loop-i l = (l.end ≤ 11) × Scan (no_mark l.f) (first (no_mark l.f) l.from l.n) l.i l.end
