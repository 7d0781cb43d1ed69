use Prim.Native.Nat.{◌/◌}
use Rattle.laws.proofs.Members.{Look}
use Rattle.laws.specs.Members.{any_of}
use Rattle.paper_rules.specs.Text.{pointer_at, pointers_of}
use lib.Dec.{eqb}
use lib.ListN.{length}
use mathlib.Core.Path.{◌≡◌}
use Rattle.rules_text.proofs.text.pointer_in.Given as goal

abbrev pub invariant-loop-i : goal.invariant-loop-i
invariant-loop-i l =
    (l.i-end ≡ length l.part / 81) × Look (eqb l.pointer) (pointer_at l.part) (any_of (eqb l.pointer) (pointers_of l.part)) l.i l.i-end
