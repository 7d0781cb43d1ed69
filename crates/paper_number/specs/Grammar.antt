-- What a number field is (document 01, "Number fields"): its parts, and how they are written.
--
--   "Blanks; optional + or -; digits with exactly one point, at least one digit; then either blanks to the end, or an
--   exponent whose last digit is in column 11. An exponent, after any blanks, is: a sign and digits; E, a sign and
--   digits; or E, any blanks and digits. No blank after a sign."
--
-- Nothing here knows the width 11: a field is as wide as what is written.
use Rattle.std.specs.Prelude.{◌≡◌, Bool, true, false, List, [], ◌∷◌, ◌++◌, ℕ, ◌+◌, ◌*◌, ◌<◌, ◌≤◌, length, replicate}

-- ---- blanks and digits

abbrev pub blanks : ℕ → List ℕ
blanks n = replicate n 32

-- a list of digits, each by its value
abbrev pub Digits : List ℕ → Type 0
Digits [] = Unit {0}
Digits (d ∷ ds) = (d < 10) × Digits ds

-- its characters
abbrev pub digits_text : List ℕ → List ℕ
digits_text [] = []
digits_text (d ∷ ds) = (48 + d) ∷ digits_text ds

-- its number, behind a number that was read before it
abbrev pub num_from : ℕ → List ℕ → ℕ
num_from a [] = a
num_from a (d ∷ ds) = num_from (a * 10 + d) ds

abbrev pub num : List ℕ → ℕ
num ds = num_from 0 ds

-- ---- "optional + or -"

pub data Sign : Type 0 where
  unsigned : Sign
  signed : Bool → Sign

abbrev pub sign_byte : Bool → ℕ
sign_byte false = 43
sign_byte true = 45

abbrev pub sign_text : Sign → List ℕ
sign_text unsigned = []
sign_text (signed g) = sign_byte g ∷ []

abbrev pub minus : Sign → Bool
minus unsigned = false
minus (signed g) = g

-- ---- "then either blanks to the end, or an exponent whose last digit is in column 11"

-- what opens an exponent, behind k blanks: "a sign"; "E, a sign"; "E, any blanks" (j of them)
pub data Opening : Type 0 where
  by_sign : ℕ → Bool → Opening
  by_mark : ℕ → Bool → Opening
  by_bare : ℕ → ℕ → Opening

abbrev pub open_text : Opening → List ℕ
open_text (by_sign k g) = blanks k ++ (sign_byte g ∷ [])
open_text (by_mark k g) = blanks k ++ (69 ∷ sign_byte g ∷ [])
open_text (by_bare k j) = blanks k ++ (69 ∷ blanks j)

-- the exponent is below zero
abbrev pub below : Opening → Bool
below (by_sign k g) = g
below (by_mark k g) = g
below (by_bare k j) = false

-- k blanks to the end, or an exponent with its digits
pub data Tail : Type 0 where
  plain : ℕ → Tail
  power : Opening → List ℕ → Tail

abbrev pub tail_text : Tail → List ℕ
tail_text (plain k) = blanks k
tail_text (power o ds) = open_text o ++ digits_text ds

abbrev pub GoodTail : Tail → Type 0
GoodTail (plain k) = Unit {0}
GoodTail (power o ds) = Digits ds × (1 ≤ length ds)

-- ---- the field

-- blanks in front, the sign, the digits before the point and those behind it, and the tail
pub record Field : Type 0 where
  pub lead : ℕ
  pub sign : Sign
  pub whole : List ℕ
  pub part : List ℕ
  pub tail : Tail

unfoldable pub write : Field → List ℕ
write f =
    blanks f.lead
    ++ (sign_text f.sign
    ++ (digits_text f.whole
    ++ (46 ∷ (digits_text f.part
    ++ tail_text f.tail))))

-- "digits with exactly one point, at least one digit"
pub record GoodField (f : Field) : Type 0 where
  pub digits : Digits (f.whole ++ f.part)
  pub some : 1 ≤ length (f.whole ++ f.part)
  pub tail : GoodTail f.tail

-- the columns l are the field f; that they are one field only is the law `spelt-once`
pub record Spells (l : List ℕ) (f : Field) : Type 0 where
  pub good : GoodField f
  pub same : write f ≡ l

-- the characters of which fields are made
pub data Letter (b : ℕ) : Type 0 where
  blank : b ≡ 32 → Letter b
  digit : (d : ℕ) → d < 10 → b ≡ 48 + d → Letter b
  point : b ≡ 46 → Letter b
  sign : (g : Bool) → b ≡ sign_byte g → Letter b
  mark : b ≡ 69 → Letter b
