use Prim.Native.Nat.{◌-◌, ◌≤◌}
use mathlib.Core.Path.{◌≡◌}
use Rattle.program_text.specs.Line.{number_over}
use Rattle.program_text.proofs.number_in.Given as goal

abbrev pub invariant-loop-i : goal.invariant-loop-i
invariant-loop-i l =
    (l.from ≤ l.i) × (l.i - l.from ≤ l.past - l.from) × (l.n ≡ number_over l.line l.from (l.i - l.from)) × (l.n ≤ 999999999)
