use mathlib.Core.Path.{◌≡◌}
use Prim.Native.Nat.{◌*◌, ◌<◌, ◌^◌}
use Rattle.number.proofs.value.without_zeros.Given as goal

abbrev pub invariant-loop-number : goal.invariant-loop-number
invariant-loop-number l = (0 < l.number) × (l.n ≡ l.number * 10 ^ l.zeros)

abbrev pub decreases-loop-number : goal.decreases-loop-number
decreases-loop-number l = l.number
