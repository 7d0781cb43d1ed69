-- The fields before the groups as a call gives them (document 02, M-106): fifteen numbers, and the half-life's value in eight.
-- "A refused call stores nothing."
use Rattle.std.specs.Prelude.{ℕ, ◌+◌, ◌-◌, ◌*◌, ◌^◌, cond, List, [], ◌∷◌, ltb}
use Rattle.paper_decay_fields.specs.declared.types.Head.{Head}
use Rattle.exports_words.specs.Words.{lent_after}
use Rattle.exports_fields.specs.Parts.{value_stored}

-- ---- the word: in bits 0 to 7 the number, in 24 to 63 how many characters stand before the first that no code has there;
-- the most that the bits can say stands for more

abbrev pub MOST : ℕ
MOST = 2 ^ 40 - 1

unfoldable pub head_word : Head → ℕ
head_word h = h.number + 2 ^ 24 * cond (ltb h.at MOST) h.at MOST

-- ---- the places: flag, Z, symbol, A, isomer, half-life, unit; then how many groups

abbrev pub places_numbers : Head → List ℕ
places_numbers h =
    h.flag.first ∷ h.flag.length ∷ h.z.first ∷ h.z.length ∷ h.symbol.first ∷ h.symbol.length ∷ h.a.first
    ∷ h.a.length ∷ h.isomer.first ∷ h.isomer.length ∷ h.half.part.first ∷ h.half.part.length ∷ h.unit.first
    ∷ h.unit.length ∷ h.groups ∷ []

unfoldable pub places_stored : List ℕ → Head → List ℕ
places_stored before h = lent_after h.number before (places_numbers h)

unfoldable pub half_stored : List ℕ → Head → List ℕ
half_stored before h = lent_after h.number before (value_stored h.half.value)
