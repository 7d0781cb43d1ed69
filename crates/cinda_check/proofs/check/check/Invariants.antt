use Rattle.cinda_check.proofs.Lines.{turn_at}
use Rattle.laws.proofs.Turns.{Run}
use Rattle.paper_cinda.specs.Layout.{MOST-CINDA}
use Rattle.paper_cinda.specs.Check.{all_passed, check_of}
use Prim.Native.Nat.{◌*◌, ◌/◌, ◌≤◌}
use lib.ListN.{length}
use mathlib.Core.Path.{◌≡◌}
use Rattle.cinda_check.proofs.check.check.Given as goal

abbrev pub invariant-loop-i : goal.invariant-loop-i
invariant-loop-i l =
    (l.n ≡ length l.lines / 126) × (length l.lines ≡ length l.lines / 126 * 126) × (length l.lines / 126 ≤ MOST-CINDA)
    × Run (turn_at l.lines) all_passed (check_of l.lines) tt l.i l.n
