use Prim.Native.Nat.{◌+◌, ◌-◌, ◌≤◌}
use lib.ListN.{length}
use mathlib.Core.Path.{◌≡◌}
use Rattle.double_cases.proofs.add_record.Given as goal

abbrev pub invariant-loop-i : goal.invariant-loop-i
invariant-loop-i l =
    (l.i ≤ 80) × (l.used + 81 ≤ length l.initial.entry) × (length l.line ≡ 81) × (length l.entry ≡ length l.initial.entry)

abbrev pub decreases-loop-i : goal.decreases-loop-i
decreases-loop-i l = 80 - l.i
