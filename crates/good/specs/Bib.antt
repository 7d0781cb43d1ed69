-- A BIB section (document 01, "BIB, headings, pointers" and the table of N1 and N2).
use Rattle.std.specs.Prelude.{ℕ, ◌≤◌, ◌≡◌, List, [], ◌∷◌, map, length}
use Rattle.laws.specs.Walk.{All}
use Rattle.paper_record.specs.Fields.{fields_of, n1, n2}
use Rattle.paper_record.specs.Word.{pointer_of}
use Rattle.paper_record.specs.Identifier.{BIB, NOBIB, ENDBIB, OTHER}
use Rattle.paper_record.specs.Same.{SameColumns}
use Rattle.paper_record.specs.Plain.{Word, PointerOrBlank}
use Rattle.rules_plain.specs.Places.{bib_place, pointers_in}
use Rattle.rules_plain.specs.Texts.{NoKeyword, SamePointer}
use Rattle.good.specs.Parts.{Record, Keyword, Bib, Section, present, absent, texts_of}
use Rattle.good.specs.Marks.{name_of, CountIs, Once}

-- any system identifier inside BIB is not due; "11 a pointer or blank"
pub record Text (r : Record) : Type 0 where
  pub no_system : name_of r ≡ OTHER
  pub pointer : PointerOrBlank (pointer_of (bib_place r))

-- one keyword and what stands under it: "a keyword (word)"; then columns 1-10 are blank; "no pointer twice under one
-- keyword"
pub record GoodKeyword (k : Keyword) : Type 0 where
  pub word : Word 10 (bib_place k.first)
  pub blank : All NoKeyword k.more
  pub texts : All Text (k.first ∷ k.more)
  pub pointers : Once SamePointer [] (pointers_in (k.first ∷ k.more))

abbrev pub keyword_places : List Keyword → List (List ℕ)
keyword_places ks = map (λ k. bib_place k.first) ks

-- "No keyword occurs twice in a section". "The first record has a keyword" by the parts: a section consists of keywords
-- with their records. "BIB | keywords, at least 1 | records, at least N1", and each keyword has a record; "ENDBIB .. |
-- records between"
pub record GoodBib (b : Bib) : Type 0 where
  pub opens : name_of b.opening ≡ BIB
  pub keywords : CountIs (n1 (fields_of b.opening)) (length b.keywords)
  pub least : 1 ≤ length b.keywords
  pub records : CountIs (n2 (fields_of b.opening)) (length (texts_of b.keywords))
  pub each : All GoodKeyword b.keywords
  pub once : Once (SameColumns 10) [] (keyword_places b.keywords)
  pub ends : name_of b.ending ≡ ENDBIB
  pub between : CountIs (n1 (fields_of b.ending)) (length (texts_of b.keywords))

-- "BIB section or NOBIB"
abbrev pub GoodBibPart : Section Bib → Type 0
GoodBibPart (present b) = GoodBib b
GoodBibPart (absent r) = name_of r ≡ NOBIB

-- its text records, none with NOBIB
abbrev pub texts_of_part : Section Bib → List Record
texts_of_part (present b) = texts_of b.keywords
texts_of_part (absent r) = []
