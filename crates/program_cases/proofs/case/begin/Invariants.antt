use Rattle.std.proofs.Common.{◌≡◌, ◌-◌, length}
use Rattle.program_cases.proofs.case.begin.Given as goal

abbrev pub invariant-loop-i : goal.invariant-loop-i
invariant-loop-i l = length l.case ≡ length l.initial.case

abbrev pub decreases-loop-i : goal.decreases-loop-i
decreases-loop-i l = l.length - l.i
