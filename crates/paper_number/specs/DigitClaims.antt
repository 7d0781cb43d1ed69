-- What is claimed of the count of digits (document 02, M-104). Each type here is that of a law in proofs/Laws, under
-- the law's name.
use Rattle.std.specs.Prelude.{◌≡◌, ◌↔◌, List, [], ◌∷◌, ℕ, ◌≤◌, length}
use Rattle.paper_number.specs.declared.types.Decimal.{Decimal}
use Rattle.paper_number.specs.declared.types.Reading.TheVariants.{Number}
use Rattle.paper_number.specs.Grammar.{Field, Spells}
use Rattle.paper_number.specs.Reading.{read_field}
use Rattle.paper_number.specs.Digits.{DigitsWritten, digit_count}

-- the count that the reader tells of a field is that of the digits written in it, and no other is
abbrev pub DigitsExactly : Type 0
DigitsExactly = (l : List ℕ) (f : Field) → Spells l f → (n : ℕ) → (digit_count l ≡ n) ↔ DigitsWritten f n

-- what is no field has none: blanks, and what is malformed
abbrev pub DigitsNone : Type 0
DigitsNone = (l : List ℕ) → ((f : Field) → Spells l f → ⊥) → digit_count l ≡ 0

-- "0 for zero", however it is spelt, and for no other number
abbrev pub DigitsZero : Type 0
DigitsZero = (l : List ℕ) (v : Decimal) → read_field l ≡ Number v → (digit_count l ≡ 0) ↔ (v.coefficient ≡ 0)

-- of eleven columns one is the point
abbrev pub DigitsMost : Type 0
DigitsMost = (l : List ℕ) → length l ≡ 11 → digit_count l ≤ 10

-- "0.140 gives 3, 100. gives 3, 1.+2 gives 1"
abbrev pub DigitsShown : Type 0
DigitsShown =
    (digit_count (32 ∷ 32 ∷ 32 ∷ 32 ∷ 32 ∷ 32 ∷ 48 ∷ 46 ∷ 49 ∷ 52 ∷ 48 ∷ []) ≡ 3)
    × (digit_count (32 ∷ 32 ∷ 32 ∷ 32 ∷ 32 ∷ 32 ∷ 32 ∷ 49 ∷ 48 ∷ 48 ∷ 46 ∷ []) ≡ 3)
    × (digit_count (32 ∷ 32 ∷ 32 ∷ 32 ∷ 32 ∷ 32 ∷ 32 ∷ 49 ∷ 46 ∷ 43 ∷ 50 ∷ []) ≡ 1)
