-- The fields of a record (document 01, "Record, line and field"):
--
--   "Columns 1 to 66 are six fields of eleven columns taken as one value; 67-71 accession, 72-74 subentry, 75-79
--   sequence; 80 alteration flag, judged only as a character (004, 2.1)."
use Rattle.std.specs.Prelude.{ℕ, ◌+◌, ◌*◌, ◌≤◌, Bool, List, [], ◌∷◌, length, get_or}
use Rattle.laws.specs.Search.{first}
use Rattle.paper_record.specs.Columns.{columns_at}

-- the field k of a record, counted from 0
abbrev pub field_at : List ℕ → ℕ → List ℕ
field_at r k = columns_at (k * 11) 11 r

-- the six fields; that the one at k is `field_at r k` is the law `field_of`
unfoldable pub fields_of : List ℕ → List (List ℕ)
fields_of r = field_at r 0 ∷ field_at r 1 ∷ field_at r 2 ∷ field_at r 3 ∷ field_at r 4 ∷ field_at r 5 ∷ []

-- "N1 is columns 12-22, N2 23-33.": of the six fields of a record these two
abbrev pub n1 : List (List ℕ) → List ℕ
n1 fields = get_or fields 1 []

abbrev pub n2 : List (List ℕ) → List ℕ
n2 fields = get_or fields 2 []

-- a part that holds eleven columns from a place on
pub record Holds (part : List ℕ) (at : ℕ) : Type 0 where
  pub room : at + 11 ≤ length part

-- ---- the first field at fault

-- a test of the field k
abbrev pub in_field : (ℕ → List ℕ → Bool) → List (List ℕ) → ℕ → Bool
in_field test fields k = test k (get_or fields k [])

-- the first of the six fields that meets the test, or 6
abbrev pub first_field : (ℕ → List ℕ → Bool) → List (List ℕ) → ℕ
first_field test fields = first (in_field test fields) 0 6
