-- The parts of an entry as plain data: records, and lists of records (document 01, "Nesting and counts"):
--
--   "ENTRY; one or more subentries; ENDENTRY. A subentry is NOSUBENT alone, or SUBENT, then BIB section or NOBIB, then
--   COMMON section or NOCOMMON, then (except in 001) DATA section or NODATA, then ENDSUBENT. The first subentry is
--   SUBENT 001. 001 has neither DATA nor NODATA."
use Rattle.std.specs.Prelude.{ℕ, List, [], ◌∷◌, ◌++◌}
use Rattle.rules_plain.specs.Places.{concat}

-- "A record is 80 columns and one line feed (81 bytes).": its bytes
abbrev pub Record : Type 0
Record = List ℕ

-- ---- the parts

-- a keyword: the record that bears it, and the records under it up to the next keyword
pub record Keyword : Type 0 where
  pub first : Record
  pub more : List Record

-- BIB, the keywords, ENDBIB
pub record Bib : Type 0 where
  pub opening : Record
  pub keywords : List Keyword
  pub ending : Record

-- COMMON or DATA, "k heading records, k unit records, then value records, k to a line", ENDCOMMON or ENDDATA
pub record Table : Type 0 where
  pub opening : Record
  pub headings : List Record
  pub units : List Record
  pub lines : List (List Record)
  pub ending : Record

-- a section, or the one record that says that there is none
pub data Section (A : Type 0) : Type 0 where
  present : A → Section A
  absent : Record → Section A

-- 001: SUBENT, BIB section or NOBIB, COMMON section or NOCOMMON, ENDSUBENT
pub record Subentry001 : Type 0 where
  pub opening : Record
  pub bib : Section Bib
  pub common : Section Table
  pub ending : Record

-- a later one with its records: the same, and DATA section or NODATA before ENDSUBENT
pub record Later : Type 0 where
  pub opening : Record
  pub bib : Section Bib
  pub common : Section Table
  pub values : Section Table
  pub ending : Record

-- "A subentry is NOSUBENT alone, or SUBENT, .."
pub data Subentry : Type 0 where
  nosubent : Record → Subentry
  subent : Later → Subentry

pub record Entry : Type 0 where
  pub opening : Record
  pub first : Subentry001
  pub later : List Subentry
  pub ending : Record

-- ---- their records, in order

unfoldable pub texts_of : List Keyword → List Record
texts_of [] = []
texts_of (k ∷ ks) = k.first ∷ (k.more ++ texts_of ks)

abbrev pub rows_of : Table → List Record
rows_of t = t.headings ++ (t.units ++ concat t.lines)

abbrev pub bib_records : Section Bib → List Record
bib_records (present b) = b.opening ∷ (texts_of b.keywords ++ (b.ending ∷ []))
bib_records (absent r) = r ∷ []

abbrev pub table_records : Section Table → List Record
table_records (present t) = t.opening ∷ (rows_of t ++ (t.ending ∷ []))
table_records (absent r) = r ∷ []

-- the records between SUBENT and ENDSUBENT
abbrev pub body_of_first : Subentry001 → List Record
body_of_first s = bib_records s.bib ++ table_records s.common

abbrev pub body_of : Later → List Record
body_of s = bib_records s.bib ++ (table_records s.common ++ table_records s.values)

abbrev pub first_records : Subentry001 → List Record
first_records s = s.opening ∷ (body_of_first s ++ (s.ending ∷ []))

abbrev pub later_records : Subentry → List Record
later_records (nosubent r) = r ∷ []
later_records (subent s) = s.opening ∷ (body_of s ++ (s.ending ∷ []))

unfoldable pub subentries_records : List Subentry → List Record
subentries_records [] = []
subentries_records (s ∷ ss) = later_records s ++ subentries_records ss

abbrev pub records_of : Entry → List Record
records_of e = e.opening ∷ (first_records e.first ++ (subentries_records e.later ++ (e.ending ∷ [])))
