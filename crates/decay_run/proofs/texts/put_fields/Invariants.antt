use Prim.Native.Nat.{◌+◌, ◌-◌, ◌≤◌}
use mathlib.Core.Path.{◌≡◌}
use lib.ListN.{length, drop}
use Rattle.decay_numbers.proofs.Storing.{Storing}
use Rattle.decay_run.proofs.Commas.{run_between, place_behind}
use Rattle.decay_run.proofs.texts.put_fields.Given as goal

abbrev pub invariant-loop-at : goal.invariant-loop-at
invariant-loop-at l =
    (l.n ≡ length l.text) × (l.i ≤ length l.text) × (l.to ≤ l.at + l.i) × (l.place ≤ 4)
    × (place_behind l.place (drop l.i l.text) ≡ place_behind l.first l.text)
    × Storing l.initial.out l.at (run_between l.first l.text) l.out l.to (run_between l.place (drop l.i l.text))

abbrev pub decreases-loop-at : goal.decreases-loop-at
decreases-loop-at l = l.n - l.i
