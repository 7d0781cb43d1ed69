use Prim.Native.Nat.{◌<◌, ◌^◌, ◌≤◌}
use mathlib.Core.Path.{◌≡◌}
use Rattle.canonical_layout.proofs.layout.measured.Given as goal

abbrev pub invariant-loop-i : goal.invariant-loop-i
invariant-loop-i l = (l.i ≤ 19) × ((l.least ≡ 10 ^ l.i) × (0 < l.i → 10 ^ l.i ≤ l.v))
