use Prim.Native.Nat.{◌-◌, ◌*◌, ◌≤◌}
use Rattle.paper_decay_run.specs.Run.{run_records}
use Rattle.decay_numbers.proofs.Storing.{Storing}
use Rattle.decay_run.proofs.records.put_records.Given as goal

abbrev pub invariant-loop-i : goal.invariant-loop-i
invariant-loop-i l =
    Storing l.initial.out 0 (run_records 0 l.entry l.first (l.last - l.first) l.column) l.out l.to (run_records l.place l.entry l.i (l.last - l.i) l.column)
    × (l.i ≤ l.last) × (l.to ≤ l.i * 81) × (l.place ≤ 4)
