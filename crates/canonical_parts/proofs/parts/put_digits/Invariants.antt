use Prim.Native.Nat.{◌≤◌}
use Rattle.paper_canonical.specs.Closed.{shift}
use Rattle.paper_canonical.specs.Storing.{put_digits}
use lib.ListN.{length}
use mathlib.Core.Path.{◌≡◌}
use Rattle.canonical_parts.proofs.parts.put_digits.Given as goal

abbrev pub invariant-loop-k : goal.invariant-loop-k
invariant-loop-k l =
    (l.k ≤ l.n) × ((length l.out ≡ length l.initial.out) × ((put_digits l.initial.out l.at l.n l.v ≡ put_digits l.out l.at l.k l.w) × (shift l.n l.v ≡ shift l.k l.w)))
