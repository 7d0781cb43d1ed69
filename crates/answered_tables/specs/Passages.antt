-- A passage of a good entry, by the keywords of its BIB sections (document 01, "BIB, headings, pointers"):
--
--   "A passage is the run of records from a keyword (pointer of that record, or none) or from a pointer, up to the next
--   pointer or keyword."
--
-- A BIB section of a good entry is plain data (good, Parts): keywords, each with the record that bears it and the
-- records under it.
use Rattle.std.specs.Prelude.{ℕ, ◌≡◌, Bool, true, false, not, List, [], ◌∷◌, ◌++◌, take}
use Rattle.laws.specs.Blocks.{joined}
use Rattle.laws.specs.Walk.{All}
use Rattle.paper_record.specs.Text.{is_blank}
use Rattle.paper_record.specs.Word.{pointer_of}
use Rattle.paper_entry.specs.Answer.{answer_of}
use Rattle.paper_questions.specs.Ask.{passage_asked}
use Rattle.paper_questions.specs.PartAnswers.{bytes_in}
use Rattle.rules_plain.specs.Places.{bib_place}
use Rattle.good.specs.Parts.{Record, Keyword, Bib, present, Subentry, subent, Later, Entry}
use Rattle.good.specs.Subentries.{own_number}
use Rattle.good.specs.Good.{GoodBytes}

-- ---- the BIB section that a question names

pub data BibOf (e : Entry) : ℕ → Bib → Type 0 where
  first_bib : (b : Bib) → e.first.bib ≡ present b → BibOf e 1 b
  later_bib : (before after : List Subentry) (l : Later) (b : Bib) → e.later ≡ before ++ (subent l ∷ after)
      → l.bib ≡ present b → BibOf e (own_number l.opening) b

-- ---- its passages

-- "11 a pointer or blank", "Blank means no pointer."
abbrev pub has_pointer : Record → Bool
has_pointer r = not (is_blank (pointer_of (bib_place r)))

-- a passage begins with the record of the keyword, before which none stands under it, or with one that has a pointer
pub data BeginsBehind : List Record → Record → Type 0 where
  with_keyword : (r : Record) → BeginsBehind [] r
  with_pointer : (before : List Record) (r : Record) → has_pointer r ≡ true → BeginsBehind before r

-- "up to the next pointer or keyword": under the keyword nothing is left, or a record with a pointer comes
pub data Stops : List Record → Type 0 where
  at_keyword : Stops []
  at_pointer : (r : Record) (rs : List Record) → has_pointer r ≡ true → Stops (r ∷ rs)

-- the passage of this keyword with this pointer: the record `head` and the records `run` behind it
pub record PassageIn (b : Bib) (keyword : List ℕ) (pointer : ℕ) : Type 0 where
  pub earlier : List Keyword
  pub own : Keyword
  pub later : List Keyword
  pub among : b.keywords ≡ earlier ++ (own ∷ later)
  pub named : keyword ≡ take 10 (bib_place own.first)
  pub before : List Record
  pub head : Record
  pub run : List Record
  pub after : List Record
  pub split : own.first ∷ own.more ≡ before ++ (head ∷ (run ++ after))
  pub begun : BeginsBehind before head
  pub pointed : pointer_of (bib_place head) ≡ pointer
  pub none : All (λ r. has_pointer r ≡ false) run
  pub stops : Stops after

-- "a passage likewise, whole records": these records, as a part of the entry
abbrev pub PassageOfBib : Type 0
PassageOfBib =
    (s : List ℕ) (g : GoodBytes s) (n : ℕ) (b : Bib) → BibOf g.entry n b
    → (keyword : List ℕ) (pointer : ℕ) (x : PassageIn b keyword pointer)
    → ((passage_asked s n keyword pointer).answer ≡ answer_of 0)
    × (bytes_in s (passage_asked s n keyword pointer) ≡ joined (x.head ∷ x.run))
