use Prim.Native.Nat.{◌-◌, ◌/◌, ◌≤◌}
use Rattle.entry_step.specs.Pass.{Walking}
use lib.ListN.{length}
use Rattle.reasons.proofs.state.state_at.Given as goal

abbrev pub invariant-loop-i : goal.invariant-loop-i
invariant-loop-i l = (l.n ≤ length l.entry / 81) × Walking l.j l.entry l.i × (l.i ≤ l.n)

abbrev pub decreases-loop-i : goal.decreases-loop-i
decreases-loop-i l = l.n - l.i
