use Rattle.std.proofs.Common.{◌≡◌, ◌-◌, length}
use Rattle.index_cases.proofs.read_lines.Given as goal

abbrev pub invariant-loop-from : goal.invariant-loop-from
invariant-loop-from l =
    (length l.entry ≡ length l.initial.entry) × (length l.index ≡ length l.initial.index)

abbrev pub decreases-loop-from : goal.decreases-loop-from
decreases-loop-from l = length l.text - l.from
