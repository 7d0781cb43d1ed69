-- What is claimed of the index of an accepted entry, so that no weaker reading of it is left (document 02, M-102):
--
--   "five to a subentry in entry order, NOSUBENT too: its number, first record, and the records BIB, COMMON and DATA, 0
--   where none."
use Rattle.std.specs.Prelude.{ℕ, ◌+◌, ◌*◌, ◌/◌, ◌%◌, ◌<◌, ◌≤◌, ◌≡◌, true, List, length, get_or, take, drop}
use Rattle.paper_record.specs.Identifier.{BIB, COMMON, DATA}
use Rattle.paper_record.specs.declared.types.RecordNo.{RecordNo}
use Rattle.paper_rules.specs.Roles.{opens_subentry}
use Rattle.paper_entry.specs.Answer.{answer_of}
use Rattle.paper_entry.specs.Judging.{Accepted}
use Rattle.paper_entry.specs.Contexts.{role_at}
use Rattle.paper_questions.specs.declared.types.Row.{Row}
use Rattle.paper_questions.specs.Row.{NONE}
use Rattle.paper_questions.specs.Located.{row_of}
use Rattle.paper_index.specs.Rows.{number_at, index_of}
use Rattle.paper_index.specs.Making.{rows_in, made, stored_index}
use Rattle.paper_index.specs.ByIndex.{row_in, rows_before}
use Rattle.inside.specs.Inside.{RecordOf}

-- ---- which rows there are

-- the number of the row that has so many before it
abbrev pub number_of_row : List ℕ → ℕ → ℕ
number_of_row s i = get_or (index_of s) (i * 5) 0

-- "in entry order": the numbers of an entry's subentries rise
abbrev pub IndexRises : Type 0
IndexRises = (s : List ℕ) → Accepted s → (i j : ℕ) → i < j → j < rows_in s → number_of_row s i < number_of_row s j

-- each is the row of its number
abbrev pub IndexRows : Type 0
IndexRows = (s : List ℕ) → Accepted s → (i : ℕ) → i < rows_in s → row_in (index_of s) i ≡ row_of s (number_of_row s i)

-- the record with the index i is a SUBENT or NOSUBENT that bears this number
pub record OpensWith (s : List ℕ) (n i : ℕ) : Type 0 where
  pub there : i < length s / 81
  pub role : opens_subentry (role_at s i) ≡ true
  pub bears : number_at s i ≡ n

-- "NOSUBENT too": each of them has a row
abbrev pub EveryOpened : Type 0
EveryOpened =
    (s : List ℕ) → Accepted s → (n i : ℕ) → OpensWith s n i → rows_before (index_of s) n < length (index_of s) / 5

-- ---- the row that is found, and its number in the entry

abbrev pub IndexWhole : Type 0
IndexWhole = (s : List ℕ) → length (index_of s) % 5 ≡ 0

abbrev pub RowFound : Type 0
RowFound =
    (s : List ℕ) → Accepted s → (n : ℕ) → rows_before (index_of s) n < length (index_of s) / 5
    → row_in (index_of s) (rows_before (index_of s) n) ≡ row_of s n

abbrev pub RowNone : Type 0
RowNone =
    (s : List ℕ) → Accepted s → (n : ℕ) → rows_before (index_of s) n ≡ length (index_of s) / 5 → (row_of s n).first ≡ NONE

abbrev pub FoundHasFirst : Type 0
FoundHasFirst =
    (s : List ℕ) → Accepted s → (n : ℕ) → rows_before (index_of s) n < length (index_of s) / 5
    → (row_of s n).first.0 ≡ 0 → ⊥

-- ---- what a row says

-- "the records BIB, COMMON and DATA, 0 where none": the number of the record of the subentry n that has this role
pub data RecordSaid (s : List ℕ) (n role : ℕ) (at : RecordNo) : Type 0 where
  none : at.0 ≡ 0 → ((i : ℕ) → RecordOf s n role i → ⊥) → RecordSaid s n role at
  one : (i : ℕ) → RecordOf s n role i → at.0 ≡ i + 1 → RecordSaid s n role at

-- "its number, first record": the subentry is opened by the record with the index i
pub record RowTrue (s : List ℕ) (n i : ℕ) (x : Row) : Type 0 where
  pub number : x.number ≡ n
  pub first : x.first.0 ≡ i + 1
  pub bib : RecordSaid s n BIB x.bib
  pub common : RecordSaid s n COMMON x.common
  pub «data» : RecordSaid s n DATA x.«data»

abbrev pub RowSaid : Type 0
RowSaid = (s : List ℕ) → Accepted s → (n i : ℕ) → OpensWith s n i → RowTrue s n i (row_of s n)

-- ---- making it

-- "numbers past them stay": with room for the rows the slice holds the index, and behind it what it held; cut to its rows
-- it is the index
pub record IndexIn (s t after : List ℕ) : Type 0 where
  pub rows : take (5 * rows_in s) after ≡ index_of s
  pub past : drop (5 * rows_in s) after ≡ drop (5 * rows_in s) t

abbrev pub IndexMade : Type 0
IndexMade =
    (s t : List ℕ) → Accepted s → 5 * rows_in s ≤ length t
    → (made s (length t) ≡ record { answer = answer_of 0; rows = rows_in s }) × IndexIn s t (stored_index s t)

-- a refused entry has none
abbrev pub RefusedRows : Type 0
RefusedRows = (s : List ℕ) → (Accepted s → ⊥) → rows_in s ≡ 0
