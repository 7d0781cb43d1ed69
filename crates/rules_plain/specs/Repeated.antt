-- The records that a heading or a value is held against (`RecordsBefore`), and what is wrong at a heading for refusals
-- 13 and 14 (document 01, "BIB, headings, pointers"; document 02, M-101): said over these records, with no offset and
-- no search. What is wrong at a value for refusal 17 is said over them in Flags.
--
-- The code follows `rule13` and `rule14` (paper_rules, Headings and Pointers), which compute over the
-- bytes of these records. That they find exactly the headings that are said here is stated below (`RepeatedExactly`,
-- `LostExactly`).
use Rattle.std.specs.Prelude.{ℕ, ◌-◌, ◌<◌, ◌≡◌, Bool, List, [], ◌++◌, map, ◌↔◌, eqb, length, get_or, take}
use Rattle.laws.specs.Blocks.{joined}
use Rattle.laws.specs.Walk.{All}
use Rattle.paper_record.specs.Fields.{field_at, fields_of}
use Rattle.paper_record.specs.Word.{pointer_of}
use Rattle.paper_record.specs.Same.{SameColumns}
use Rattle.paper_record.specs.PlainRepeats.{MayRepeat}
use Rattle.paper_rules.specs.declared.types.Track.{Track}
use Rattle.paper_rules.specs.State.{Seen, used}
use Rattle.paper_rules.specs.Roles.{DATA-HEADING}
use Rattle.paper_rules.specs.Record.{Record, field_column}
use Rattle.paper_faults.specs.Fault.{Columns}
use Rattle.paper_rules.specs.Headings.{rule13}
use Rattle.paper_rules.specs.Pointers.{rule14}
use Rattle.rules_plain.specs.Places.{concat, Some, Long, pointers_in, pointers_on}

-- ---- what stands before a heading record or a value record

-- the records that a heading or a value is held against: text records of BIB, heading records of COMMON and of the
-- table in hand
pub record RecordsBefore : Type 0 where
  -- the text records of the BIB of 001, and of this subentry's BIB
  pub bib001 : List Record
  pub bib : List Record
  -- the heading records of the COMMON of 001, of this subentry's COMMON, and of the table in hand before this record
  pub common001 : List Record
  pub common : List Record
  pub table : List Record

-- "A record is 80 columns and one line feed (81 bytes).": each heading record
pub record LongHeadings (b : RecordsBefore) : Type 0 where
  pub common001 : All Long b.common001
  pub common : All Long b.common
  pub table : All Long b.table

-- the bytes that judging has kept are those of these records
pub record SeenBefore (s : Seen) (b : RecordsBefore) : Type 0 where
  pub bib001 : s.bib001 ≡ joined b.bib001
  pub bib : s.bib ≡ joined b.bib
  pub common001 : s.common001 ≡ joined b.common001
  pub common : s.common ≡ joined b.common
  pub table : s.table ≡ joined b.table
  pub long_bib001 : All Long b.bib001
  pub long_bib : All Long b.bib
  pub long : LongHeadings b

-- and of no others
abbrev pub OneBefore : Type 0
OneBefore = (s : Seen) (b c : RecordsBefore) → SeenBefore s b → SeenBefore s c → b ≡ c

-- ---- headings and pointers

-- "Columns 1 to 66 are six fields of eleven columns": the headings of heading records, in order; unused ones are blank
unfoldable pub headings_on : List Record → List (List ℕ)
headings_on rows = concat (map fields_of rows)

-- the table in hand up to the field k of its record r
abbrev pub table_so_far : RecordsBefore → Record → ℕ → List (List ℕ)
table_so_far b r k = headings_on b.table ++ take k (fields_of r)

-- the sections before it: the COMMON of 001, and this subentry's COMMON
abbrev pub other_headings : RecordsBefore → List (List ℕ)
other_headings b = headings_on b.common001 ++ headings_on b.common

-- "BIB column 11 of this subentry or 001, or .. a heading of either one's COMMON"
abbrev pub pointers_met : RecordsBefore → List ℕ
pointers_met b =
    pointers_in b.bib
    ++ (pointers_in b.bib001 ++ (pointers_on (headings_on b.common) ++ pointers_on (headings_on b.common001)))

-- ---- 13, "heading repeated"

-- one of these headings has the same eleven columns
abbrev pub SameIn : List ℕ → List (List ℕ) → Type 0
SameIn f headings = Some (SameColumns 11 f) headings

-- the last one of the table so far: the heading to the left
abbrev pub left_in : List (List ℕ) → List ℕ
left_in headings = get_or headings (length headings - 1) []

-- the heading in the field k of r, in COMMON or in DATA, repeats an earlier one where it may not
pub data Repeated (in_data : Bool) (b : RecordsBefore) (r : Record) (k : ℕ) : Type 0 where
  -- "in one section only": an equal one stands in another section
  elsewhere : SameIn (field_at r k) (other_headings b) → Repeated in_data b r k
  -- "The same heading and pointer may repeat for ..": one stands in this section, and the word is not in the list
  not_listed : SameIn (field_at r k) (table_so_far b r k) → (MayRepeat in_data (field_at r k) → ⊥) → Repeated in_data b r k
  -- "All equal ones must stand together": one stands in this section, and the heading to the left is another
  apart : SameIn (field_at r k) (table_so_far b r k)
      → (SameColumns 11 (field_at r k) (left_in (table_so_far b r k)) → ⊥) → Repeated in_data b r k

-- ---- 14, "DATA pointer not found"

-- "Blank means no pointer."; "A pointer on a DATA heading must occur in .."
pub record Lost (b : RecordsBefore) (f : List ℕ) : Type 0 where
  pub pointer : pointer_of f ≡ 32 → ⊥
  pub nowhere : Some (λ p. pointer_of f ≡ p) (pointers_met b) → ⊥

-- ---- that the rules find exactly these

-- the column is the first of a used field of which P holds
pub record FirstOf (t : Track) (P : ℕ → Type 0) (column : ℕ) : Type 0 where
  pub field : ℕ
  pub is_used : field < used t
  pub holds : P field
  pub first : field_column field ≡ column

-- the rule's columns are those, and no others
abbrev pub Finds : Columns → Track → (ℕ → Type 0) → Type 0
Finds columns t P = (column : ℕ) → Some (λ c. c ≡ column) columns ↔ FirstOf t P column

abbrev pub RepeatedExactly : Type 0
RepeatedExactly =
    (s : Seen) (t : Track) (role : ℕ) (b : RecordsBefore) (r : Record) → SeenBefore s b
    → Finds (rule13 s t role (fields_of r) r) t (Repeated (eqb role DATA-HEADING) b r)

abbrev pub LostExactly : Type 0
LostExactly =
    (s : Seen) (t : Track) (b : RecordsBefore) (r : Record) → SeenBefore s b
    → Finds (rule14 s t (fields_of r)) t (λ k. Lost b (field_at r k))
