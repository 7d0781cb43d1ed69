-- What is claimed of exponents and whole numbers (document 02, M-105). Each type here is that of a law in proofs/Laws,
-- under the law's name.
use Rattle.std.specs.Prelude.{◌≡◌, true, false, ◌↔◌, List, [], ◌∷◌, ℕ, pos}
use Rattle.paper_number.specs.declared.types.Reading.TheVariants.{Number}
use Rattle.paper_number.specs.Grammar.{Field, Spells}
use Rattle.paper_number.specs.Value.{value_of}
use Rattle.paper_number.specs.Reading.{read_field}
use Rattle.paper_number.specs.declared.types.WholeRead.TheVariants as W
use Rattle.paper_number.specs.Whole.{is_raised, has_exponent, whole_read, whole_is}

-- the columns l are a field with an exponent
pub record Raised (l : List ℕ) : Type 0 where
  pub field : Field
  pub spells : Spells l field
  pub raised : is_raised field.tail ≡ true

-- an exponent is told of these, and of nothing else
abbrev pub ExponentExactly : Type 0
ExponentExactly = (l : List ℕ) → (has_exponent l ≡ true) ↔ Raised l

-- a whole number is told exactly where it is the value, by whatever digits, and no exponent is written
abbrev pub WholeExactly : Type 0
WholeExactly =
    (l : List ℕ) (n : ℕ)
    → (whole_is l n ≡ true) ↔ ((has_exponent l ≡ false) × (read_field l ≡ Number (value_of false n (pos 0))))

-- +01.0 says 1 and -.0 says 0; 2.5 and -2. say no whole number, 2.+0 has an exponent, and 2 is no number
abbrev pub WholeShown : Type 0
WholeShown =
    (whole_read (43 ∷ 48 ∷ 49 ∷ 46 ∷ 48 ∷ []) ≡ W.Whole 1)
    × (whole_read (45 ∷ 46 ∷ 48 ∷ []) ≡ W.Whole 0)
    × (whole_read (50 ∷ 46 ∷ 53 ∷ []) ≡ W.Broken)
    × (whole_read (45 ∷ 50 ∷ 46 ∷ []) ≡ W.Broken)
    × (whole_read (50 ∷ 46 ∷ 43 ∷ 48 ∷ []) ≡ W.Raised)
    × (whole_read (50 ∷ []) ≡ W.NoNumber)
