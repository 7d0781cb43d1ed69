use Rattle.laws.proofs.Turns.{Run}
use Rattle.paper_decay.specs.Records.{Records, record_turn, ended, scan_records}
use Rattle.decay_records.proofs.records.scan_records.Given as goal

abbrev pub invariant-loop-i : goal.invariant-loop-i
invariant-loop-i l =
    Records l.entry l.first l.past
    × Run (record_turn l.entry) (ended l.past) (scan_records l.entry l.first l.past) l.s l.i l.past
