-- Which refusal a question to any bytes by any row meets (document 02, M-102), in the words of Plain:
--
--   "[it] reads the subentry's first record (NOSUBENT gives 32), the section's, then the asked field's [..]; 39 meets the
--   first read that lies outside the entry or has not its identifier, number, counts or asked field in form and range.
--   Refusals: [..] asking, [..] then 32 to 36, with 39 where it is met and 31 no longer given."
--
-- Each case says of the reads before it that they are good, so that only one case can hold. That the definitions of
-- paper_index give exactly these numbers is stated here (`ValueRefusedExactly` ..), and what stands beside them
-- (`ValueRefusedSays` ..); proved in proofs/PlainRefusals and proofs/RefusedReads.
use Rattle.std.specs.Prelude.{ℕ, ◌≤◌, ◌≡◌, ◌↔◌, List}
use Rattle.paper_number.specs.declared.types.Reading.TheVariants.{Blank}
use Rattle.paper_record.specs.Identifier.{NOSUBENT, BIB}
use Rattle.paper_record.specs.PlainNames.{Named}
use Rattle.paper_record.specs.declared.types.LineNo.{LineNo}
use Rattle.paper_record.specs.declared.types.RecordNo.{RecordNo}
use Rattle.paper_entry.specs.declared.types.Answer.{Answer}
use Rattle.paper_entry.specs.Answer.{first_of}
use Rattle.paper_questions.specs.declared.types.Row.{Row}
use Rattle.paper_questions.specs.declared.types.PartAnswer.{PartAnswer}
use Rattle.paper_index.specs.Reads.{read_refusals}
use Rattle.paper_index.specs.TableAnswers.{value_from_row, heading_from_row, unit_from_row}
use Rattle.row_answers.specs.Plain.{LiesIn, field_in, SubentRead, SectionThere, TableRead, ValueRead}
use Rattle.row_answers.specs.Plain.{HeadingRead, UnitRead}

-- ---- the subentry's first record, and the section's

-- "NOSUBENT", whatever number it bears
pub record NosubentRead (s : List ℕ) (x : Row) : Type 0 where
  pub lies : LiesIn s x.first
  pub named : Named (field_in s x.first 0) NOSUBENT

-- "33 no such section (1 COMMON, 2 DATA, else 33; [..])": the row's record is 0 where there is none
pub data LacksSection (x : Row) (section : ℕ) : Type 0 where
  lacks_common : section ≡ 1 → x.common.0 ≡ 0 → LacksSection x section
  lacks_data : section ≡ 2 → x.«data».0 ≡ 0 → LacksSection x section
  lacks_other : (section ≡ 1 → ⊥) → (section ≡ 2 → ⊥) → LacksSection x section

-- both are good
pub record TableGood (s : List ℕ) (x : Row) (section : ℕ) : Type 0 where
  pub subent : SubentRead s x
  pub at : RecordNo
  pub columns : ℕ
  pub lines : ℕ
  pub table : TableRead s x section at columns lines

pub record BibGood (s : List ℕ) (x : Row) : Type 0 where
  pub subent : SubentRead s x
  pub keywords : ℕ
  pub records : ℕ
  pub bib : SectionThere s x.bib BIB keywords records

-- they come first, whatever is asked; `Lacks` says that the row names no such section, `Good` that both are good
pub data ReadRefused (s : List ℕ) (x : Row) (Lacks Good : Type 0) : ℕ → Type 0 where
  read_nosubent : NosubentRead s x → ReadRefused s x Lacks Good 32
  read_first : (NosubentRead s x → ⊥) → (SubentRead s x → ⊥) → ReadRefused s x Lacks Good 39
  read_none : SubentRead s x → Lacks → ReadRefused s x Lacks Good 33
  read_section : SubentRead s x → (Lacks → ⊥) → (Good → ⊥) → ReadRefused s x Lacks Good 39

abbrev pub TableRefused : List ℕ → Row → ℕ → ℕ → Type 0
TableRefused s x section number = ReadRefused s x (LacksSection x section) (TableGood s x section) number

-- "NOBIB for passages"
abbrev pub BibRefused : List ℕ → Row → ℕ → Type 0
BibRefused s x number = ReadRefused s x (x.bib.0 ≡ 0) (BibGood s x) number

-- ---- the asked field

-- "Records, table lines and columns are numbered from 1."
pub record OneOf (most n : ℕ) : Type 0 where
  pub from : 1 ≤ n
  pub to : n ≤ most

-- "34 no such line; 35 no such column"; then the field, whose record lies outside or which holds no value
pub data ValueRefused (s : List ℕ) (x : Row) (section : ℕ) (line : LineNo) (column : ℕ) : ℕ → Type 0 where
  value_table : (number : ℕ) → TableRefused s x section number → ValueRefused s x section line column number
  value_line : (t : TableGood s x section) → (OneOf t.lines line.0 → ⊥)
      → ValueRefused s x section line column 34
  value_column : (t : TableGood s x section) → OneOf t.lines line.0 → (OneOf t.columns column → ⊥)
      → ValueRefused s x section line column 35
  value-field : (t : TableGood s x section) → OneOf t.lines line.0 → OneOf t.columns column
      → (ValueRead s x section line column → ⊥) → ValueRefused s x section line column 39

-- "headings and units skip 34"; what is asked for is then read, or 39
pub data ColumnRefused (s : List ℕ) (x : Row) (section column : ℕ) (Asked : Type 0) : ℕ → Type 0 where
  column_table : (number : ℕ) → TableRefused s x section number → ColumnRefused s x section column Asked number
  column_none : (t : TableGood s x section) → (OneOf t.columns column → ⊥)
      → ColumnRefused s x section column Asked 35
  column_field : (t : TableGood s x section) → OneOf t.columns column → (Asked → ⊥)
      → ColumnRefused s x section column Asked 39

abbrev pub HeadingRefused : List ℕ → Row → ℕ → ℕ → ℕ → Type 0
HeadingRefused s x section column number =
    ColumnRefused s x section column (HeadingRead s x section column) number

abbrev pub UnitRefused : List ℕ → Row → ℕ → ℕ → ℕ → Type 0
UnitRefused s x section column number = ColumnRefused s x section column (UnitRead s x section column) number

-- ---- that the computing definitions give exactly these; the number 0 is said in Plain

abbrev pub ValueRefusedExactly : Type 0
ValueRefusedExactly =
    (s : List ℕ) (x : Row) (section : ℕ) (line : LineNo) (column number : ℕ)
    → ((number ≡ 0 → ⊥) × ((value_from_row s x section line column).answer.number ≡ number))
    ↔ ValueRefused s x section line column number

abbrev pub HeadingRefusedExactly : Type 0
HeadingRefusedExactly =
    (s : List ℕ) (x : Row) (section column number : ℕ)
    → ((number ≡ 0 → ⊥) × ((heading_from_row s x section column).answer.number ≡ number))
    ↔ HeadingRefused s x section column number

abbrev pub UnitRefusedExactly : Type 0
UnitRefusedExactly =
    (s : List ℕ) (x : Row) (section column number : ℕ)
    → ((number ≡ 0 → ⊥) × ((unit_from_row s x section column).answer.number ≡ number))
    ↔ UnitRefused s x section column number

-- of a passage, the first two reads: both good, or which refusal; then the text records (row_passages)
abbrev pub BibReadExactly : Type 0
BibReadExactly = (s : List ℕ) (x : Row) → (first_of (read_refusals s x x.bib BIB) ≡ 0) ↔ BibGood s x

abbrev pub BibRefusedExactly : Type 0
BibRefusedExactly =
    (s : List ℕ) (x : Row) (number : ℕ)
    → ((number ≡ 0 → ⊥) × (first_of (read_refusals s x x.bib BIB) ≡ number)) ↔ BibRefused s x number

-- ---- and what stands beside: zeros

abbrev pub with_zeros : ℕ → Answer
with_zeros number = record { number = number; refusal = 0; «record» = record { 0 = 0 }; column = 0; ordinal = 0 }

-- "a refused value is blank beside its number"
abbrev pub ValueRefusedSays : Type 0
ValueRefusedSays =
    (s : List ℕ) (x : Row) (section : ℕ) (line : LineNo) (column number : ℕ)
    → ValueRefused s x section line column number
    → value_from_row s x section line column ≡ record { answer = with_zeros number; value = Blank; digits = 0 }

-- "A refused part is empty, its pointer blank"
abbrev pub empty_with : ℕ → PartAnswer
empty_with number = record { answer = with_zeros number; first = 0; length = 0; pointer = 32 }

abbrev pub HeadingRefusedSays : Type 0
HeadingRefusedSays =
    (s : List ℕ) (x : Row) (section column number : ℕ) → HeadingRefused s x section column number
    → heading_from_row s x section column ≡ empty_with number

abbrev pub UnitRefusedSays : Type 0
UnitRefusedSays =
    (s : List ℕ) (x : Row) (section column number : ℕ) → UnitRefused s x section column number
    → unit_from_row s x section column ≡ empty_with number
