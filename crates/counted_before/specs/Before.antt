-- What is counted before a record, each by the last record of its kind. These are the counts that 8 says, and the number
-- that 9 says (document 02, M-108).
use Rattle.std.specs.Prelude.{ℕ, zero, suc, ◌+◌, ◌<◌, ◌≡◌, Bool, true, false, cond, not, ◌&&◌, ◌||◌, List, [], eqb, get_or}
use Rattle.laws.specs.Blocks.{block_at}
use Rattle.paper_record.specs.Fields.{fields_of, n1}
use Rattle.paper_record.specs.Identifier.{BIB, ENDBIB, ENDCOMMON, ENDDATA, ENDSUBENT}
use Rattle.paper_record.specs.System.{subentry_of}
use Rattle.paper_record.specs.Word.{blank_to}
use Rattle.paper_rules.specs.Roles.{TEXT, opens_subentry, opens_section}
use Rattle.paper_rules.specs.Counts.{count_n1}
use Rattle.paper_entry.specs.Contexts.{context_at, role_at}

abbrev pub is_bib : ℕ → Bool
is_bib role = eqb role BIB

-- among the records before the index i the last of a kind has the index j
pub record LastBefore (kind : ℕ → Bool) (s : List ℕ) (i j : ℕ) : Type 0 where
  pub before : j < i
  pub is : kind (role_at s j) ≡ true
  pub last : (m : ℕ) → j < m → m < i → kind (role_at s m) ≡ false

pub record LastOf (kind : ℕ → Bool) (s : List ℕ) (i : ℕ) : Type 0 where
  pub index : ℕ
  pub is : LastBefore kind s i index

-- how many of the first i records are such
unfoldable pub how_many : (ℕ → Bool) → ℕ → ℕ
how_many such zero = 0
how_many such (suc i) = cond (such i) (how_many such i + 1) (how_many such i)

-- ---- 8

-- an END record has one before it that it ends
abbrev pub ends_section : ℕ → Bool
ends_section role = eqb role ENDBIB || (eqb role ENDCOMMON || eqb role ENDDATA)

abbrev pub SectionOpened : Type 0
SectionOpened = (s : List ℕ) (i : ℕ) → ends_section (role_at s i) ≡ true → LastOf opens_section s i

abbrev pub SubentryOpened : Type 0
SubentryOpened = (s : List ℕ) (i : ℕ) → eqb (role_at s i) ENDSUBENT ≡ true → LastOf opens_subentry s i

abbrev pub BibOpened : Type 0
BibOpened = (s : List ℕ) (i : ℕ) → eqb (role_at s i) ENDBIB ≡ true → LastOf is_bib s i

-- "records between": behind BIB, COMMON or DATA, and behind SUBENT
abbrev pub SectionBetween : Type 0
SectionBetween =
    (s : List ℕ) (i j : ℕ) → LastBefore opens_section s i j → j + 1 + (context_at s i).track.section ≡ i

abbrev pub SubentryBetween : Type 0
SubentryBetween =
    (s : List ℕ) (i j : ℕ) → LastBefore opens_subentry s i j → j + 1 + (context_at s i).track.subentry.records ≡ i

-- "subentries, NOSUBENT included"
abbrev pub SubentriesBefore : Type 0
SubentriesBefore =
    (s : List ℕ) (i : ℕ) → (context_at s i).track.totals.subentries ≡ how_many (λ m. opens_subentry (role_at s m)) i

-- the keywords: N1 of BIB, and the text records behind it that have one
abbrev pub KeywordsAnnounced : Type 0
KeywordsAnnounced =
    (s : List ℕ) (i j : ℕ) → LastBefore is_bib s i j
    → (context_at s i).track.bib.keywords ≡ count_n1 (fields_of (block_at 81 s j))

abbrev pub keyword_at : List ℕ → ℕ → Bool
keyword_at s m = eqb (role_at s m) TEXT && not (blank_to 10 (get_or (fields_of (block_at 81 s m)) 0 []))

abbrev pub KeywordsMet : Type 0
KeywordsMet =
    (s : List ℕ) (i j : ℕ) → LastBefore is_bib s i j
    → how_many (keyword_at s) (j + 1) + (context_at s i).track.bib.met ≡ how_many (keyword_at s) i

-- ---- 9

-- "the previous subentry number (000 if none)"
abbrev pub NumberBefore : Type 0
NumberBefore =
    (s : List ℕ) (i j : ℕ) → LastBefore opens_subentry s i j
    → (context_at s i).track.subentry.number ≡ subentry_of (n1 (fields_of (block_at 81 s j)))

abbrev pub NoneBefore : Type 0
NoneBefore =
    (s : List ℕ) (i : ℕ) → ((m : ℕ) → m < i → opens_subentry (role_at s m) ≡ false)
    → (context_at s i).track.subentry.number ≡ 0
