-- What writing comes to, said of all eleven bytes that there are (document 01):
--
--   "Writing: 40 buffer not eleven bytes, 41 no field reads to the value. A refused call stores nothing."
use Rattle.std.specs.Prelude.{ℕ, ◌≡◌, Bool, ◌↔◌, List, ℤ, length}
use Rattle.paper_number.specs.declared.types.Decimal.{Decimal}
use Rattle.paper_number.specs.declared.types.Reading.TheVariants.{Number}
use Rattle.paper_number.specs.Value.{Value, Reads, value_of}
use Rattle.paper_number.specs.Reading.{read_field}
use Rattle.paper_canonical.specs.Canonical.{Best, ExactlyOne}
use Rattle.paper_canonical.specs.Writing.{written, bytes, refusal_number}

-- "no such field reads back as that decimal"
abbrev pub NoneReads : Decimal → Type 0
NoneReads v = (m : List ℕ) → length m ≡ 11 → read_field m ≡ Number v → ⊥

-- writing the decimal v into a buffer that holds l: the number of the answer, and what the buffer then holds
pub data Writes (v : Decimal) (l : List ℕ) : ℕ → List ℕ → Type 0 where
  -- of all eleven bytes that read to v these come first
  its_field : (m : List ℕ) → length l ≡ 11 → Best 11 v m → Writes v l 0 m
  no_field : length l ≡ 11 → NoneReads v → Writes v l 41 l
  no_room : (length l ≡ 11 → ⊥) → Writes v l 40 l

-- "The writer takes any sign, any 64-bit coefficient and any 32-bit signed power, normal or not.": they have the value
-- v
abbrev pub WrittenSo : Type 0
WrittenSo =
    (negative : Bool) (a : ℕ) (p : ℤ) (v : Decimal) → Value negative a p v
    → (l : List ℕ) → Writes v l (refusal_number (written l (value_of negative a p))) (bytes l (value_of negative a p))

-- and nothing else is answered and stored
abbrev pub WrittenAlone : Type 0
WrittenAlone =
    (negative : Bool) (a : ℕ) (p : ℤ) (v : Decimal) → Value negative a p v
    → (l : List ℕ) (n : ℕ) (m : List ℕ) → Writes v l n m
    → (n ≡ refusal_number (written l (value_of negative a p))) × (m ≡ bytes l (value_of negative a p))

-- "That exactly one field wins is proved.": of every value that columns read to
abbrev pub OneWins : Type 0
OneWins = (w : ℕ) (v : Decimal) (l : List ℕ) → length l ≡ w → Reads l v → ExactlyOne w v

-- "and is refused exactly when no such field reads back as that decimal"
abbrev pub RefusedExactly : Type 0
RefusedExactly =
    (negative : Bool) (a : ℕ) (p : ℤ) (v : Decimal) → Value negative a p v
    → (l : List ℕ) → length l ≡ 11 → (refusal_number (written l (value_of negative a p)) ≡ 41) ↔ NoneReads v
