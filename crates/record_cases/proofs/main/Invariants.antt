use Rattle.std.proofs.Common.{◌≡◌, length}
use Rattle.record_cases.proofs.main.Given as goal

abbrev pub invariant-loop-number : goal.invariant-loop-number
invariant-loop-number l = length l.rec ≡ 81
