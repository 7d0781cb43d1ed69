-- The passages of a BIB section (document 01, "BIB, headings, pointers"):
--
--   "BIB: columns 1-10 a keyword (word) or blank, 11 a pointer or blank, 12-66 text. [..] A passage is the run of
--   records from a keyword (pointer of that record, or none) or from a pointer, up to the next pointer or keyword."
use Rattle.std.specs.Prelude.{ℕ, ◌+◌, ◌-◌, ◌≤◌, Bool, cond, not, ◌&&◌, ◌||◌, List, [], eqb, ltb, get_or}
use Rattle.laws.specs.Search.{first}
use Rattle.paper_record.specs.Text.{is_blank}
use Rattle.paper_record.specs.System.{up_to}
use Rattle.paper_record.specs.Word.{blank_to, equal_to, pointer_of}
use Rattle.paper_record.specs.declared.types.RecordNo.{RecordNo}
use Rattle.paper_rules.specs.Limits.{MOST-RECORDS}
use Rattle.paper_rules.specs.Counts.{count_n2}
use Rattle.paper_questions.specs.declared.types.Passage.{Passage}
use Rattle.paper_questions.specs.Place.{fields_at}

-- ---- the text records of a BIB section

-- "BIB: records, at least N1"; a number that no entry holds counts as 0
unfoldable pub text_records : List ℕ → RecordNo → ℕ
text_records s bib = up_to MOST-RECORDS (count_n2 (fields_at s bib))

-- the number of the text record i, counted from 0, and its columns 1 to 11: the keyword's place and the pointer's
abbrev pub text_record : RecordNo → ℕ → RecordNo
text_record bib i = record { 0 = bib.0 + (i + 1) }

abbrev pub text_at : List ℕ → RecordNo → ℕ → List ℕ
text_at s bib i = get_or (fields_at s (text_record bib i)) 0 []

-- ---- what is looked for in those eleven columns

abbrev pub has_keyword : List ℕ → Bool
has_keyword f = not (blank_to 10 f)

abbrev pub is_keyword : List ℕ → List ℕ → Bool
is_keyword keyword f = has_keyword f && equal_to 10 f keyword

-- a passage begins: "from a keyword [..] or from a pointer"
abbrev pub begins : List ℕ → Bool
begins f = has_keyword f || not (is_blank (pointer_of f))

-- the passage with this pointer begins; a blank is "none"
abbrev pub begins_with : ℕ → List ℕ → Bool
begins_with pointer f = begins f && eqb (pointer_of f) pointer

-- the first text record, of those from i up to e, that meets a test; e where none does
abbrev pub first_text : List ℕ → RecordNo → (List ℕ → Bool) → ℕ → ℕ → ℕ
first_text s bib test i e = first (λ m. test (text_at s bib m)) i (e - i)

-- text records of a BIB section that a row of an entry names
pub record Span (bib : RecordNo) (i e : ℕ) : Type 0 where
  pub below : bib.0 ≤ MOST-RECORDS
  pub ordered : i ≤ e
  pub few : e ≤ MOST-RECORDS

-- ---- the passage

abbrev pub NO-PASSAGE : Passage
NO-PASSAGE = record { first = record { 0 = 0 }; records = 0 }

-- under the keyword of the text record k, of n: the record p at which the passage begins stands before the next
-- keyword, and it runs "up to the next pointer or keyword"
unfoldable pub passage_under : List ℕ → RecordNo → ℕ → ℕ → ℕ → Passage
passage_under s bib pointer k n =
    let u : ℕ = first_text s bib has_keyword (k + 1) n in
    let p : ℕ = first_text s bib (begins_with pointer) k u in
    cond (ltb p u)
    (record { first = text_record bib p; records = first_text s bib begins (p + 1) n - p })
    NO-PASSAGE

-- the passage with a keyword and a pointer; no records where there is none
unfoldable pub passage_of : List ℕ → RecordNo → List ℕ → ℕ → Passage
passage_of s bib keyword pointer =
    let n : ℕ = text_records s bib in
    let k : ℕ = first_text s bib (is_keyword keyword) 0 n in
    cond (ltb k n) (passage_under s bib pointer k n) NO-PASSAGE
