use Rattle.std.proofs.Common.{◌≡◌, ◌-◌, length}
use Rattle.program_cases.proofs.case.put_record.Given as goal

abbrev pub invariant-loop-column : goal.invariant-loop-column
invariant-loop-column l = length l.space ≡ length l.initial.space

abbrev pub decreases-loop-column : goal.decreases-loop-column
decreases-loop-column l = 80 - l.column
