-- What is claimed of number fields (document 01, "Number fields"). Each type here is that of a law in proofs/Laws, under
-- the law's name: `SaysExactly` is what `says-exactly` proves.
use Rattle.std.specs.Prelude.{◌≡◌, Bool, ◌↔◌, List, ℕ, ◌≤◌, ℤ, pos, neg_ℤ, length, ◌≤ℤ◌}
use Rattle.paper_number.specs.declared.types.Decimal.{Decimal}
use Rattle.paper_number.specs.declared.types.Reading.{Reading}
use Rattle.paper_number.specs.declared.types.Reading.TheVariants.{Blank, Number, Refused}
use Rattle.paper_number.specs.Grammar.{blanks, Field, Spells}
use Rattle.paper_number.specs.Value.{Value, value_of, Reads, Says}
use Rattle.paper_number.specs.Reading.{read_field, read_number}

-- ---- "The value is (negative, coefficient, power of ten), the coefficient not divisible by ten."

-- every sign, whole number and power of ten has a value, and `value_of` works it out
abbrev pub ValueFound : Type 0
ValueFound = (negative : Bool) (a : ℕ) (p : ℤ) → Value negative a p (value_of negative a p)

-- it has no other
abbrev pub ValueOne : Type 0
ValueOne = (negative : Bool) (a : ℕ) (p : ℤ) (v w : Decimal) → Value negative a p v → Value negative a p w → v ≡ w

-- ---- the grammar, "Blanks; optional + or -; digits with exactly one point, .."

-- it is unambiguous: columns are one field at most
abbrev pub SpeltOnce : Type 0
SpeltOnce = (l : List ℕ) (f g : Field) → Spells l f → Spells l g → f ≡ g

-- ---- reading

-- the reader says of columns what the paper says: "blank is said as blank", the value, "15 malformed"
abbrev pub SaysExactly : Type 0
SaysExactly = (l : List ℕ) (r : Reading) → (read_field l ≡ r) ↔ Says l r

-- and the paper says one thing of them
abbrev pub SaysOnce : Type 0
SaysOnce = (l : List ℕ) (r s : Reading) → Says l r → Says l s → r ≡ s

-- they read to a value exactly when the grammar gives that value,
abbrev pub ReadsExactly : Type 0
ReadsExactly = (l : List ℕ) (v : Decimal) → (read_field l ≡ Number v) ↔ Reads l v

-- and as blank exactly when they are blanks
abbrev pub BlankRead : Type 0
BlankRead = (l : List ℕ) → (read_field l ≡ Blank) ↔ (l ≡ blanks (length l))

-- "Number reading: 40 not eleven bytes, 15 malformed"
abbrev pub ElevenRead : Type 0
ElevenRead = (l : List ℕ) → length l ≡ 11 → read_number l ≡ read_field l

abbrev pub OthersRefused : Type 0
OthersRefused = (l : List ℕ) → (length l ≡ 11 → ⊥) → read_number l ≡ Refused 40

-- eleven columns hold a coefficient of at most 9,999,999,999 and a power from -100,000,000 to 99,999,999, so that 64 and
-- 32 bits are enough for what they say
abbrev pub ReadBoundsEleven : Type 0
ReadBoundsEleven =
    (l : List ℕ) (v : Decimal) → length l ≡ 11 → read_field l ≡ Number v
    → (v.coefficient ≤ 9999999999) × (neg_ℤ (pos 100000000) ≤ℤ v.power) × (v.power ≤ℤ pos 99999999)
