use Prim.Native.Nat.{◌≤◌}
use mathlib.Core.Path.{◌≡◌}
use lib.ListN.{length, take}
use Rattle.paper_decay_run.specs.Overlay.{overlay}
use Rattle.decay_numbers.proofs.kept.put_kept.Given as goal

abbrev pub invariant-loop-i : goal.invariant-loop-i
invariant-loop-i l =
    (l.i ≤ length l.text) × (l.room ≡ length l.initial.out) × (l.out ≡ overlay l.initial.out l.at (take l.i l.text)) × (length l.out ≡ length l.initial.out)
