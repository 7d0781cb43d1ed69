use Rattle.std.proofs.Common.{◌≡◌, ◌-◌, length}
use Rattle.index_cases.proofs.changing.put_text.Given as goal

abbrev pub invariant-loop-i : goal.invariant-loop-i
invariant-loop-i l = length l.entry ≡ length l.initial.entry

abbrev pub decreases-loop-i : goal.decreases-loop-i
decreases-loop-i l = length l.line - l.i
