use Prim.Native.Nat.{◌/◌}
use Rattle.laws.proofs.Members.{Look}
use Rattle.laws.specs.Members.{any_of}
use Rattle.paper_record.specs.Word.{equal_to}
use Rattle.paper_rules.specs.Text.{place_in_part, places_of}
use lib.ListN.{length}
use mathlib.Core.Path.{◌≡◌}
use Rattle.rules_text.proofs.text.keyword_among.Given as goal

abbrev pub invariant-loop-i : goal.invariant-loop-i
invariant-loop-i l =
    (l.i-end ≡ length l.part / 81) × Look (equal_to 10 l.f) (place_in_part l.part) (any_of (equal_to 10 l.f) (places_of l.part)) l.i l.i-end
