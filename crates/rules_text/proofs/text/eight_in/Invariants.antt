use Prim.Native.Nat.{◌+◌, ◌*◌, ◌/◌}
use Rattle.laws.proofs.Members.{Look}
use Rattle.laws.specs.Members.{any_of}
use Rattle.paper_record.specs.Word.{eight_at}
use Rattle.paper_rules.specs.Text.{eights_of}
use lib.Dec.{eqb}
use lib.ListN.{length}
use mathlib.Core.Path.{◌≡◌}
use Rattle.rules_text.proofs.text.eight_in.Given as goal

abbrev pub invariant-loop-i : goal.invariant-loop-i
invariant-loop-i l =
    (l.i-end ≡ length l.part / 81)
    × Look (eqb l.number) (λ i. eight_at l.part (i * 81 + 2)) (any_of (eqb l.number) (eights_of l.part)) l.i l.i-end
