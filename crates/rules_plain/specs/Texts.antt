-- What is wrong at a text record, one inside BIB, for refusals 10 and 11 (document 01, "BIB, headings, pointers"): said
-- over the records of this BIB before it, with no offset, no search and no state.
--
-- The code follows `rule10` and `rule11_text` (paper_rules, Text), which compute over the bytes of these records. That
-- they find a fault exactly where one is said here is stated below (`KeywordExactly` ..), and proved in proofs/Texts.
use Rattle.std.specs.Prelude.{ℕ, ◌<◌, ◌≡◌, List, [], ◌∷◌, ◌↔◌, length, get_or, drop}
use Rattle.laws.specs.Blocks.{joined}
use Rattle.laws.specs.Walk.{All}
use Rattle.paper_record.specs.Fields.{fields_of}
use Rattle.paper_record.specs.Word.{pointer_of}
use Rattle.paper_record.specs.Same.{SameColumns}
use Rattle.paper_record.specs.Plain.{BlankColumns, Word, PointerOrBlank}
use Rattle.paper_rules.specs.declared.types.Track.{Track}
use Rattle.paper_rules.specs.Record.{Record}
use Rattle.paper_rules.specs.State.{Seen}
use Rattle.paper_rules.specs.Text.{rule10, rule11_text}
use Rattle.rules_plain.specs.Places.{Some, Long, bib_place}

-- ---- a text record

-- "BIB: columns 1-10 a keyword (word) or blank, 11 a pointer or blank, 12-66 text.": `bib_place` are columns 1 to 11
abbrev pub NoKeyword : Record → Type 0
NoKeyword r = BlankColumns 10 (bib_place r)

-- "Blank means no pointer.": p is a pointer, and q is the same
abbrev pub SamePointer : ℕ → ℕ → Type 0
SamePointer p q = (p ≡ 32 → ⊥) × (p ≡ q)

-- ---- 10, "keyword missing, malformed or repeated"

-- at the record r, behind the records rs of the same BIB
pub data WrongKeyword (rs : List Record) (r : Record) : Type 0 where
  -- "The first record has a keyword."
  missing : rs ≡ [] → NoKeyword r → WrongKeyword rs r
  -- "columns 1-10 a keyword (word) or blank"
  malformed : (NoKeyword r → ⊥) → (Word 10 (bib_place r) → ⊥) → WrongKeyword rs r
  -- "No keyword occurs twice in a section": one of the earlier records begins with the same ten columns
  repeated : Word 10 (bib_place r) → Some (λ x. SameColumns 10 (bib_place r) (bib_place x)) rs → WrongKeyword rs r

-- ---- 11, "bad pointer character .., or repeated under its keyword"

-- the record with the index q of those before
abbrev pub earlier : List Record → ℕ → Record
earlier rs q = get_or rs q []

-- the records behind it have no keyword of their own
abbrev pub NoneBehind : List Record → ℕ → Type 0
NoneBehind rs q = (m : ℕ) → q < m → m < length rs → NoKeyword (earlier rs m)

pub data WrongPointer (rs : List Record) (r : Record) : Type 0 where
  -- "11 a pointer or blank"; "A pointer is one of 1-9, A-Z."
  bad-pointer : (PointerOrBlank (pointer_of (bib_place r)) → ⊥) → WrongPointer rs r
  -- "no pointer twice under one keyword": an earlier record has the same pointer, and behind that record, up to this
  -- one, no keyword stands
  pointer_again : (q : ℕ) → q < length rs
      → SamePointer (pointer_of (bib_place r)) (pointer_of (bib_place (earlier rs q)))
      → NoneBehind rs q → NoKeyword r → WrongPointer rs r

-- ---- what the rules are given of the records before

-- the records under the keyword in hand
pub data UnderKeyword (rs : List Record) : List Record → Type 0 where
  -- the last record with a keyword, and those behind it
  from_keyword : (k : ℕ) → k < length rs → (NoKeyword (earlier rs k) → ⊥) → NoneBehind rs k
      → UnderKeyword rs (drop k rs)
  -- all, where none has one
  no_keyword : ((m : ℕ) → m < length rs → NoKeyword (earlier rs m)) → UnderKeyword rs rs

-- where judging stands behind the text records rs of a BIB: they are counted, and their bytes are kept, those under the
-- keyword in hand a second time
pub record BehindTexts (rs : List Record) (t : Track) (s : Seen) : Type 0 where
  pub long : All Long rs
  pub counted : t.section ≡ length rs
  pub bytes : s.bib ≡ joined rs
  pub under : List Record
  pub in-hand : UnderKeyword rs under
  pub under_bytes : s.under ≡ joined under

-- ---- that the rules find exactly this, and at this column

abbrev pub KeywordExactly : Type 0
KeywordExactly =
    (rs : List Record) (t : Track) (s : Seen) (r : Record) → BehindTexts rs t s
    → (rule10 s.bib t (fields_of r) ≡ 1 ∷ []) ↔ WrongKeyword rs r

abbrev pub KeywordFine : Type 0
KeywordFine =
    (rs : List Record) (t : Track) (s : Seen) (r : Record) → BehindTexts rs t s
    → (rule10 s.bib t (fields_of r) ≡ []) ↔ (WrongKeyword rs r → ⊥)

abbrev pub TextPointerExactly : Type 0
TextPointerExactly =
    (rs : List Record) (t : Track) (s : Seen) (r : Record) → BehindTexts rs t s
    → (rule11_text s.under (fields_of r) ≡ 11 ∷ []) ↔ WrongPointer rs r

abbrev pub TextPointerFine : Type 0
TextPointerFine =
    (rs : List Record) (t : Track) (s : Seen) (r : Record) → BehindTexts rs t s
    → (rule11_text s.under (fields_of r) ≡ []) ↔ (WrongPointer rs r → ⊥)

-- the records under the keyword in hand are one list
abbrev pub OneUnder : Type 0
OneUnder = (rs a b : List Record) → UnderKeyword rs a → UnderKeyword rs b → a ≡ b
