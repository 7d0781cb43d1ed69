use Rattle.files_step.specs.Along.{Along}
use Prim.Native.Nat.{◌-◌, ◌/◌}
use lib.ListN.{length}
use mathlib.Core.Path.{◌≡◌}
use Rattle.files.proofs.judge_file.judge_file.Given as goal

abbrev pub invariant-loop-i : goal.invariant-loop-i
invariant-loop-i l = (l.n ≡ length l.file / 81) × Along l.file l.i l.f

abbrev pub decreases-loop-i : goal.decreases-loop-i
decreases-loop-i l = l.n - l.i
