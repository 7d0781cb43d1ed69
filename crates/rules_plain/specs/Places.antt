-- Records in lists, and what stands at the same place of each (document 01, "BIB, headings, pointers").
use Rattle.std.specs.Prelude.{ℕ, ◌/◌, ◌%◌, ◌≡◌, List, [], ◌∷◌, ◌++◌, map, length, get_or}
use Rattle.paper_record.specs.Columns.{columns_at}
use Rattle.paper_record.specs.Fields.{field_at}
use Rattle.paper_record.specs.Word.{pointer_of}
use Rattle.paper_rules.specs.Record.{Record}

-- ---- lists

-- lists, one behind the other
unfoldable pub concat : {A : Type 0} → List (List A) → List A
concat [] = []
concat (xs ∷ xss) = xs ++ concat xss

-- one of the list's members has the property
pub data Some {A : Type 0} (P : A → Type 0) : List A → Type 0 where
  here : {x : A} {xs : List A} → P x → Some P (x ∷ xs)
  further : {x : A} {xs : List A} → Some P xs → Some P (x ∷ xs)

-- ---- records

-- "A record is 80 columns and one line feed (81 bytes)."
abbrev pub Long : Record → Type 0
Long r = length r ≡ 81

-- "BIB: columns 1-10 a keyword (word) or blank, 11 a pointer or blank, 12-66 text.": columns 1 to 11,
abbrev pub bib_place : Record → List ℕ
bib_place r = field_at r 0

-- and the text, 55 columns behind the first eleven
abbrev pub bib_text : Record → List ℕ
bib_text r = columns_at 11 55 r

abbrev pub pointers_in : List Record → List ℕ
pointers_in rs = map (λ r. pointer_of (bib_place r)) rs

-- the column c of a row of a table, counted from 0: six to a record
unfoldable pub cell : List Record → ℕ → List ℕ
cell row c = field_at (get_or row (c / 6) []) (c % 6)

-- the eleventh columns of headings
abbrev pub pointers_on : List (List ℕ) → List ℕ
pointers_on headings = map pointer_of headings
