use Prim.Native.Nat.{◌≤◌}
use lib.ListN.{length}
use Rattle.laws.proofs.Turns.{Run}
use Rattle.paper_decay.specs.Scan.{scan_text, text_turn, end_at}
use Rattle.decay_scan.proofs.scan.scan_text.Given as goal

abbrev pub invariant-loop-i : goal.invariant-loop-i
invariant-loop-i l = (l.i ≤ length l.text) × Run (text_turn l.text) (end_at l.text) (scan_text l.text l.initial.s) l.s l.i (length l.text)
