use Rattle.std.proofs.Common.{ℕ, ◌<◌, false, [], get_or}
use Rattle.record_faults.proofs.faults.first_fault.Given as goal

abbrev pub invariant-loop-k : goal.invariant-loop-k
invariant-loop-k g l = (k : ℕ) → k < l.k → goal.F-post g l.is_fault k (get_or l.fn.fields k []) false
