-- What is claimed of canonical fields and of the writer (document 01, "Canonical field"). Each type here is that of a law
-- in proofs/Laws, under the law's name: `CanonicalOne` is what `canonical-one` proves. The paper's own table of numbers,
-- and its statement, stand in Marked.antt.
use Rattle.std.specs.Prelude.{◌≡◌, Bool, ◌↔◌, List, ℕ, ◌<◌, ◌≤◌, ℤ, length}
use Rattle.paper_number.specs.declared.types.Decimal.{Decimal}
use Rattle.paper_number.specs.Grammar.{Field, GoodField, write}
use Rattle.paper_number.specs.Value.{Normal, Means, value_of}
use Rattle.paper_canonical.specs.Canonical.{columns, span, Canonical, ExactlyOne, NoField, Best}
use Rattle.paper_canonical.specs.Closed.{canonical_text, canonical_field}
use Rattle.paper_canonical.specs.Writing.{written, bytes, refusal_number}

-- ---- "Of all fields reading to the value: the one with fewest columns ..", for every value and every width

-- "That exactly one field wins is proved.": of every value that some field of w columns reads to
abbrev pub CanonicalOne : Type 0
CanonicalOne =
    (w : ℕ) (v : Decimal) (g : Field) → GoodField g → length (write g) ≡ w → Means g v → ExactlyOne w v

-- what wins is the closed form
abbrev pub ClosedForm : Type 0
ClosedForm = (w : ℕ) (v : Decimal) (f : Field) → Canonical w v f → write f ≡ canonical_field w v

-- no field reads to the value exactly when the closed form is wider
abbrev pub CanonicalNone : Type 0
CanonicalNone = (w : ℕ) (v : Decimal) → Normal v → NoField w v ↔ (w < length (canonical_text v))

-- the closed form is ahead of all columns that read to the value,
abbrev pub CanonicalBest : Type 0
CanonicalBest = (w : ℕ) (v : Decimal) → Normal v → length (canonical_text v) ≤ w → Best w v (canonical_field w v)

-- and no two are
abbrev pub BestOne : Type 0
BestOne = (w : ℕ) (v : Decimal) (l m : List ℕ) → Best w v l → Best w v m → l ≡ m

-- "columns from first to last non-blank" are counted by the parts of a field as in its bytes
abbrev pub ColumnsSpan : Type 0
ColumnsSpan = (f : Field) → GoodField f → span (write f) ≡ columns f

-- ---- "Writing: 40 buffer not eleven bytes, 41 no field reads to the value."

-- writing that is done leaves the canonical field in the buffer
abbrev pub WrittenBest : Type 0
WrittenBest =
    (l : List ℕ) (negative : Bool) (a : ℕ) (p : ℤ) → refusal_number (written l (value_of negative a p)) ≡ 0
    → Best 11 (value_of negative a p) (bytes l (value_of negative a p))

-- "41 no field reads to the value", and no other
abbrev pub WrittenNone : Type 0
WrittenNone =
    (l : List ℕ) (negative : Bool) (a : ℕ) (p : ℤ) → length l ≡ 11
    → (refusal_number (written l (value_of negative a p)) ≡ 41) ↔ NoField 11 (value_of negative a p)
