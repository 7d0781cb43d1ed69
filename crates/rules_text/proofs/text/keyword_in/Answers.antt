use Prim.Native.Nat.{ℕ, ◌+◌, ◌*◌, ◌/◌}
use mathlib.Core.Path.{◌≡◌, ◌∙◌, sym}
use mathlib.Core.Bool.{false}
use mathlib.Core.List.{List}
use lib.Dec.{eqb}
use lib.ListN.{length}
use borrow.Author.Tests.{eq-eqb}
use Rattle.laws.specs.Members.{any_of}
use Rattle.laws.proofs.Members.{any-weaker}
use Rattle.paper_record.specs.Word.{equal_to, eight_at}
use Rattle.paper_record.proofs.EightColumns.{eight-equal}
use Rattle.paper_rules.specs.Text.{place_in_part, places_of, eights_of}
use Rattle.rules_text.proofs.text.keyword_in.Goals as goal

-- a keyword whose number is nowhere is nowhere
nowhere : (part f : List ℕ) (number : ℕ) → number ≡ eight_at f 2 → any_of (eqb number) (eights_of part) ≡ false
    → false ≡ any_of (equal_to 10 f) (places_of part)
unfolding eights_of places_of
nowhere part f number w e =
    sym
    (any-weaker (equal_to 10 f) (eqb number) (place_in_part part) (λ i. eight_at part (i * 81 + 2))
    (λ i h. eq-eqb number (eight_at part (i * 81 + 2)) (w ∙ eight-equal f part (i * 81) h))
    0 (length part / 81) e)

pub returns-else-eight_in : goal.returns-else-eight_in
returns-else-eight_in c =
    c.if-eight_in.false ∙ nowhere _ _ _ c.eight_columns.ensures (sym c.eight_in.ensures ∙ c.if-eight_in.false)
