-- Subentries (document 01, "Nesting and counts" and "BIB, headings, pointers"; document 02, M-101 and M-105).
use Rattle.std.specs.Prelude.{ℕ, ◌<◌, ◌≤◌, ◌≡◌, Bool, true, false, List, [], ◌∷◌, ◌++◌, ◌⊎◌, length, get_or}
use Rattle.laws.specs.Walk.{All}
use Rattle.paper_record.specs.Fields.{fields_of, n1, n2}
use Rattle.paper_record.specs.Word.{pointer_of}
use Rattle.paper_record.specs.PlainRepeats.{MayRepeat}
use Rattle.paper_record.specs.Identifier.{SUBENT, NOSUBENT, ENDSUBENT}
use Rattle.paper_record.specs.System.{subentry_of}
use Rattle.paper_record.specs.Same.{SameColumns}
use Rattle.paper_record.specs.Plain.{Date, SubentN1}
use Rattle.paper_record.specs.Expected.{identification_for, subent_identification, subent_accession}
use Rattle.paper_rules.specs.Limits.{LAST-SUBENTRY}
use Rattle.rules_plain.specs.Places.{Some, pointers_in, pointers_on}
use Rattle.rules_plain.specs.Repeated.{SameIn}
use Rattle.good.specs.Parts.{Record, Subentry001, Later, Subentry, nosubent, subent, body_of_first, body_of}
use Rattle.good.specs.Marks.{Marked, Following, name_of, CountIs}
use Rattle.good.specs.Bib.{GoodBibPart, texts_of_part}
use Rattle.good.specs.Tables.{GoodCommonPart, GoodDataPart, headings_of_part}
use Rattle.good.specs.Flags.{CodeIn, FlagsOfPart}

-- ---- SUBENT, NOSUBENT and ENDSUBENT

-- the number of a subentry, which N1 says in its last three columns (`OpensSubentry.numbered`)
unfoldable pub own_number : Record → ℕ
own_number r = subentry_of (n1 (fields_of r))

-- "SUBENT, NOSUBENT | 3 blanks, accession, 3 digits | date"; "the entry's accession throughout"; "Sequence 00001 on ..
-- SUBENT and NOSUBENT"; "On .. SUBENT and NOSUBENT, number 5 compares bytes with the record's own N1"
pub record OpensSubentry (name : ℕ) (accession : List ℕ) (r : Record) : Type 0 where
  pub named : name_of r ≡ name
  pub numbered : SubentN1 (n1 (fields_of r)) (own_number r)
  pub dated : Date (n2 (fields_of r))
  pub same : SameColumns 5 (subent_accession (n1 (fields_of r))) accession
  pub marked : Marked (subent_identification (n1 (fields_of r))) 1 r

-- "ENDSUBENT | records between"; "99999 on ENDSUBENT"; the records between follow SUBENT, each with "its own number"
pub record Encloses (accession : List ℕ) (opening : Record) (body : List Record) (ending : Record) : Type 0 where
  pub between : Following (identification_for accession (own_number opening)) 2 body
  pub named : name_of ending ≡ ENDSUBENT
  pub counted : CountIs (n1 (fields_of ending)) (length body)
  pub marked : Marked (identification_for accession (own_number opening)) 99999 ending

-- ---- headings and pointers

-- the heading in the column c of a section, counted from 0
abbrev pub heading_in : List (List ℕ) → ℕ → List ℕ
heading_in headings c = get_or headings c []

-- The headings of one section, COMMON or DATA, behind those of the sections before it. "No heading with its pointer
-- occurs twice within the COMMON of 001, this subentry's COMMON and its DATA together." Document 02, M-101: "The same
-- heading and pointer may repeat for E-LVL, EN-RES, ..", which `MayRepeat` lists; "All equal ones must stand together
-- and in one section only."
pub record HeadingsFit (in_data : Bool) (others own : List (List ℕ)) : Type 0 where
  -- "in one section only"
  pub one_section : (c : ℕ) → c < length own → SameIn (heading_in own c) others → ⊥
  -- "may repeat for": one that is equal to an earlier one is in the list
  pub listed : (b c : ℕ) → b < c → c < length own → SameColumns 11 (heading_in own c) (heading_in own b)
      → MayRepeat in_data (heading_in own c)
  -- "must stand together": between two equal ones all are equal
  pub together : (b x c : ℕ) → b < x → x < c → c < length own → SameColumns 11 (heading_in own c) (heading_in own b)
      → SameColumns 11 (heading_in own c) (heading_in own x)

-- "A pointer on a DATA heading must occur in BIB column 11 of this subentry or 001, or on a heading of either one's
-- COMMON."
abbrev pub pointers_known : Subentry001 → Later → List ℕ
pointers_known first s =
    pointers_in (texts_of_part s.bib)
    ++ (pointers_in (texts_of_part first.bib)
    ++ (pointers_on (headings_of_part s.common) ++ pointers_on (headings_of_part first.common)))

-- "Blank means no pointer.": a pointer, if the heading has one, is equal to one of them
abbrev pub Occurs : List ℕ → List ℕ → Type 0
Occurs pointers h = (pointer_of h ≡ 32 → ⊥) → Some (λ p. pointer_of h ≡ p) pointers

-- "under FLAG in this subentry or 001"
abbrev pub codes_known : Subentry001 → Later → ℕ → Type 0
codes_known first s n = CodeIn s.bib n ⊎ CodeIn first.bib n

-- ---- subentries

-- "The first subentry is SUBENT 001."
pub record GoodFirst (accession : List ℕ) (s : Subentry001) : Type 0 where
  pub opens : OpensSubentry SUBENT accession s.opening
  pub number : own_number s.opening ≡ 1
  pub bib : GoodBibPart s.bib
  pub common : GoodCommonPart s.common
  pub headings : HeadingsFit false [] (headings_of_part s.common)
  pub flags : FlagsOfPart (CodeIn s.bib) s.common
  pub encloses : Encloses accession s.opening (body_of_first s) s.ending

-- a later one with its records
pub record GoodLater (accession : List ℕ) (first : Subentry001) (s : Later) : Type 0 where
  pub opens : OpensSubentry SUBENT accession s.opening
  pub bib : GoodBibPart s.bib
  pub common : GoodCommonPart s.common
  pub values : GoodDataPart s.values
  pub common_headings : HeadingsFit false (headings_of_part first.common) (headings_of_part s.common)
  pub data_headings :
      HeadingsFit true (headings_of_part first.common ++ headings_of_part s.common) (headings_of_part s.values)
  pub common_flags : FlagsOfPart (codes_known first s) s.common
  pub data_flags : FlagsOfPart (codes_known first s) s.values
  pub pointers : All (Occurs (pointers_known first s)) (headings_of_part s.values)
  pub encloses : Encloses accession s.opening (body_of s) s.ending

abbrev pub GoodSubentry : List ℕ → Subentry001 → Subentry → Type 0
GoodSubentry accession first (nosubent r) = OpensSubentry NOSUBENT accession r
GoodSubentry accession first (subent s) = GoodLater accession first s

abbrev pub subentry_number : Subentry → ℕ
subentry_number (nosubent r) = own_number r
subentry_number (subent s) = own_number s.opening

-- "Later numbers rise strictly, up to 998."
unfoldable pub NumbersRise : ℕ → List Subentry → Type 0
NumbersRise number [] = Unit
NumbersRise number (s ∷ ss) =
    (number < subentry_number s) × (subentry_number s ≤ LAST-SUBENTRY) × NumbersRise (subentry_number s) ss
