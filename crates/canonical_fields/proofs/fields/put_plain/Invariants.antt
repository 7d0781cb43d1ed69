use Prim.Native.Nat.{◌≤◌}
use lib.ListN.{length}
use lib.Seq.{paste}
use mathlib.Core.Path.{◌≡◌}
use Rattle.canonical_fields.proofs.fields.put_plain.Given as goal

abbrev pub invariant-loop-i : goal.invariant-loop-i
invariant-loop-i l =
    (l.out ≡ paste l.initial.out l.at l.field l.i) × (l.i ≤ length l.field) × (length l.out ≡ length l.initial.out)
