-- The sixteen system identifiers (document 01, "Nesting and counts"; document 02, M-100):
--
--   "The fourteen system identifiers are the names above with ENDBIB, ENDCOMMON and ENDDATA; one fills columns 1-11,
--   blanks behind."
--
--   "A file is TRANS, one or more entries, ENDTRANS (document 004, 2.2), both now system identifiers everywhere."
use Rattle.std.specs.Prelude.{ℕ, ◌+◌, ◌-◌, ◌≡◌, Bool, List, [], ◌∷◌, ◌++◌, length, get_or, replicate}
use Rattle.laws.specs.Search.{first}
use Rattle.laws.specs.Members.{join_of}
use Rattle.paper_record.specs.Text.{text}
use Rattle.paper_record.specs.Word.{equal_to}

-- ---- the names in one table, each known by its place

abbrev pub Identifier : Type 0
Identifier = ℕ

abbrev pub names : List (List ℕ)
names =
    text "ENTRY" ∷ text "SUBENT" ∷ text "NOSUBENT" ∷ text "BIB" ∷ text "NOBIB" ∷ text "ENDBIB" ∷ text "COMMON"
    ∷ text "NOCOMMON" ∷ text "ENDCOMMON" ∷ text "DATA" ∷ text "NODATA" ∷ text "ENDDATA" ∷ text "ENDSUBENT"
    ∷ text "ENDENTRY" ∷ text "TRANS" ∷ text "ENDTRANS" ∷ []

abbrev pub ENTRY : Identifier
ENTRY = 0

abbrev pub SUBENT : Identifier
SUBENT = 1

abbrev pub NOSUBENT : Identifier
NOSUBENT = 2

abbrev pub BIB : Identifier
BIB = 3

abbrev pub NOBIB : Identifier
NOBIB = 4

abbrev pub ENDBIB : Identifier
ENDBIB = 5

abbrev pub COMMON : Identifier
COMMON = 6

abbrev pub NOCOMMON : Identifier
NOCOMMON = 7

abbrev pub ENDCOMMON : Identifier
ENDCOMMON = 8

abbrev pub DATA : Identifier
DATA = 9

abbrev pub NODATA : Identifier
NODATA = 10

abbrev pub ENDDATA : Identifier
ENDDATA = 11

abbrev pub ENDSUBENT : Identifier
ENDSUBENT = 12

abbrev pub ENDENTRY : Identifier
ENDENTRY = 13

abbrev pub TRANS : Identifier
TRANS = 14

abbrev pub ENDTRANS : Identifier
ENDTRANS = 15

-- none of them
abbrev pub OTHER : Identifier
OTHER = 16

-- "one fills columns 1-11, blanks behind"
abbrev pub name_at : Identifier → List ℕ
name_at k = get_or names k [] ++ replicate (11 - length (get_or names k [])) 32

-- the names as they are lent to a function: eleven columns each, one behind the other
unfoldable pub name_table : List ℕ
name_table = join_of name_at 0 OTHER

pub record NamesLent (t : List ℕ) : Type 0 where
  pub same : t ≡ name_table

-- ---- the identifier of a record, by its first field

unfoldable pub is_name : List ℕ → Identifier → Bool
is_name f k = equal_to 11 f (name_at k)

unfoldable pub identifier_of : List ℕ → Identifier
identifier_of f = first (is_name f) 0 OTHER

-- "one beginning with END"
unfoldable pub is_end : Identifier → Bool
is_end k = equal_to 3 (name_at k) (text "END")
