use Prim.Native.Nat.{◌*◌, ◌+◌, ◌-◌, ◌^◌, ◌≤◌}
use Rattle.paper_record.specs.System.{number_in}
use mathlib.Core.Path.{◌≡◌}
use Rattle.record.proofs.system.number_in.Given as goal

abbrev pub invariant-loop-i : goal.invariant-loop-i
invariant-loop-i l =
    (l.from + l.n ≤ 11) × (l.i ≤ l.n) × (l.number ≡ number_in l.f l.from l.i) × (l.number + 23 ≤ 23 * 10 ^ l.i)
