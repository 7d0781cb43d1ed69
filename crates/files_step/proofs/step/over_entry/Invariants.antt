use Rattle.files_step.proofs.Over.{Over}
use Prim.Native.Nat.{◌-◌, ◌/◌}
use lib.ListN.{length}
use mathlib.Core.Path.{◌≡◌}
use Rattle.files_step.proofs.step.over_entry.Given as goal

abbrev pub invariant-loop-i : goal.invariant-loop-i
invariant-loop-i l = (l.n ≡ length l.file / 81) × Over l.file l.f l.i l.j

abbrev pub decreases-loop-i : goal.decreases-loop-i
decreases-loop-i l = l.n - l.i
