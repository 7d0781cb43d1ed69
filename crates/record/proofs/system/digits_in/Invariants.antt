use Prim.Native.Nat.{◌-◌, ◌≤◌}
use Rattle.laws.proofs.Search.{Scan}
use Rattle.laws.specs.Search.{first}
use Rattle.paper_record.specs.System.{no_digit_at}
use Rattle.record.proofs.system.digits_in.Given as goal

abbrev pub invariant-loop-i : goal.invariant-loop-i
invariant-loop-i l = (l.end ≤ 11) × Scan (no_digit_at l.f) (first (no_digit_at l.f) l.from l.n) l.i l.end
