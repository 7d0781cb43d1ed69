use Rattle.std.proofs.Common.{◌≡◌, ◌-◌, length}
use Rattle.program_cases.proofs.case.put_text.Given as goal

abbrev pub invariant-loop-i : goal.invariant-loop-i
invariant-loop-i l = length l.space ≡ length l.initial.space

abbrev pub decreases-loop-i : goal.decreases-loop-i
decreases-loop-i l = length l.line - l.i
