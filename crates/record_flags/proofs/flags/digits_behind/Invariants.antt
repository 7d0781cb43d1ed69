use Prim.Native.Nat.{◌-◌}
use Rattle.laws.proofs.Search.{Scan}
use Rattle.paper_record.specs.Flags.{code_digits, digit_behind}
use lib.ListN.{length}
use mathlib.Core.Bool.{not}
use mathlib.Core.Path.{◌≡◌}
use Rattle.record_flags.proofs.flags.digits_behind.Given as goal

abbrev pub invariant-loop-j : goal.invariant-loop-j
invariant-loop-j l = (length l.x ≡ 55) × Scan (λ i. not (digit_behind l.x i)) (code_digits l.x) l.j 54
