use Prim.Native.Nat.{◌+◌, ◌-◌, ◌≤◌}
use mathlib.Core.Path.{◌≡◌}
use lib.ListN.{length, drop}
use Rattle.decay_numbers.proofs.Storing.{Storing}
use Rattle.decay_numbers.proofs.Words.{run_numbers}
use Rattle.decay_numbers.proofs.numbers.put_energies.Given as goal

abbrev pub invariant-loop-at : goal.invariant-loop-at
invariant-loop-at l =
    (l.n ≡ length l.text) × (l.i ≤ length l.text) × (l.to ≤ l.at + l.i)
    × Storing l.initial.out l.at (run_numbers l.text) l.out l.to (run_numbers (drop l.i l.text))

abbrev pub decreases-loop-at : goal.decreases-loop-at
decreases-loop-at l = l.n - l.i
