-- What an entry holds by its own counts: the questions inside its shape.
--
-- What a record is, its role, its subentry and in a table its row, is told by the judge's context before it
-- (`context_at`, `role_at`): these definitions rest on that walk. Which columns and lines the entry has is told by the
-- counts that a section's own record announces; how an answer is found there is not told. The same with no walk, of a
-- good entry's own tables and BIB sections, is said in `answered_tables`.
use Rattle.std.specs.Prelude.{ℕ, ◌*◌, ◌-◌, ◌/◌, ◌<◌, ◌≤◌, ◌≡◌, Bool, true, false, cond, List, eqb, length, take}
use Rattle.laws.specs.Blocks.{block_at}
use Rattle.paper_number.specs.declared.types.Reading.{Reading}
use Rattle.paper_number.specs.declared.types.Reading.TheVariants.{Blank, Number, Refused}
use Rattle.paper_record.specs.Fields.{fields_of}
use Rattle.paper_record.specs.Word.{equal_to, pointer_of}
use Rattle.paper_record.specs.Identifier.{COMMON, DATA}
use Rattle.paper_record.specs.declared.types.LineNo.{LineNo}
use Rattle.paper_rules.specs.Counts.{count_n1, count_n2}
use Rattle.paper_rules.specs.Text.{place_in_part}
use Rattle.paper_rules.specs.Roles.{TEXT, NOT-DUE}
use Rattle.paper_entry.specs.Judging.{Accepted}
use Rattle.paper_entry.specs.Contexts.{context_at, role_at}
use Rattle.paper_questions.specs.Place.{COMMON-SECTION, DATA-SECTION}
use Rattle.paper_questions.specs.declared.types.PartAnswer.{PartAnswer}
use Rattle.paper_questions.specs.Passage.{has_keyword, begins, begins_with}
use Rattle.paper_questions.specs.Ask.{value_asked, heading_asked, unit_asked, passage_asked}

-- ---- a record of a subentry

-- the record with the index i is one of the subentry n, of this kind
pub record RecordOf (s : List ℕ) (n kind i : ℕ) : Type 0 where
  pub there : i < length s / 81
  pub role : role_at s i ≡ kind
  pub subentry : (context_at s i).track.subentry.number ≡ n

-- ---- tables

-- the identifier that opens a section
abbrev pub opened_by : ℕ → ℕ
opened_by section = cond (eqb section COMMON-SECTION) COMMON (cond (eqb section DATA-SECTION) DATA NOT-DUE)

-- the record with the index i opens that section of the subentry n
abbrev pub OpensSection : List ℕ → ℕ → ℕ → ℕ → Type 0
OpensSection s n section i = RecordOf s n (opened_by section) i

-- "columns, 1-18": the columns that a section's own record announces
pub record InsideColumn (s : List ℕ) (n section column : ℕ) : Type 0 where
  pub index : ℕ
  pub opens : OpensSection s n section index
  pub from : 1 ≤ column
  pub to : column ≤ count_n1 (fields_of (block_at 81 s index))

-- "lines, 1-20,000"; "COMMON has line 1 only"
abbrev pub lines_announced : ℕ → List ℕ → ℕ
lines_announced section r = cond (eqb section COMMON-SECTION) 1 (count_n2 (fields_of r))

pub record InsideValue (s : List ℕ) (n section : ℕ) (line : LineNo) (column : ℕ) : Type 0 where
  pub index : ℕ
  pub opens : OpensSection s n section index
  pub column_from : 1 ≤ column
  pub column_to : column ≤ count_n1 (fields_of (block_at 81 s index))
  pub line_from : 1 ≤ line.0
  pub line_to : line.0 ≤ lines_announced section (block_at 81 s index)

-- ---- text records

-- the record with the index i is a text record of the subentry n
abbrev pub TextOf : List ℕ → ℕ → ℕ → Type 0
TextOf s n i = RecordOf s n TEXT i

-- ---- passages

-- "BIB: columns 1-10 a keyword (word) or blank, 11 a pointer or blank": `place_at s i` are these columns of the record
-- with the index i

-- the record i stands under the keyword of the text record k: its own, or that of the last before it that has one
pub record Under (s : List ℕ) (n k i : ℕ) : Type 0 where
  pub text : TextOf s n k
  pub keyword : has_keyword (place_in_part s k) ≡ true
  pub before : k ≤ i
  pub last : (j : ℕ) → k < j → j ≤ i → has_keyword (place_in_part s j) ≡ false

-- "A passage is the run of records from a keyword (pointer of that record, or none) or from a pointer": the record at
-- the index begins it; the keyword is ten bytes
pub record InsidePassage (s : List ℕ) (n : ℕ) (keyword : List ℕ) (pointer : ℕ) : Type 0 where
  pub index : ℕ
  pub text : TextOf s n index
  pub begun : begins_with pointer (place_in_part s index) ≡ true
  pub keyword-at : ℕ
  pub under : Under s n keyword-at index
  pub same : equal_to 10 (place_in_part s keyword-at) keyword ≡ true

-- the part is that run, "up to the next pointer or keyword" or the end of the section
pub record RunFrom (s : List ℕ) (n i : ℕ) (part : PartAnswer) : Type 0 where
  pub first : part.first ≡ i * 81
  pub past : ℕ
  pub some : i < past
  pub bytes : part.length ≡ (past - i) * 81
  pub inside : (j : ℕ) → i < j → j < past → TextOf s n j × (begins (place_in_part s j) ≡ false)
  pub ends : TextOf s n past → begins (place_in_part s past) ≡ true

-- ---- what is claimed of them

abbrev pub is_said : Reading → Bool
is_said Blank = true
is_said (Number v) = true
is_said (Refused n) = false

-- demand 3: for an accepted entry every question inside its own shape is answered, and a value is blank or a number
abbrev pub ValueAnswered : Type 0
ValueAnswered =
    (s : List ℕ) (n section : ℕ) (line : LineNo) (column : ℕ) → Accepted s → InsideValue s n section line column
    → ((value_asked s n section line column).answer.number ≡ 0)
    × (is_said (value_asked s n section line column).value ≡ true)

-- a heading and a unit are ten columns of the entry
abbrev pub HeadingAnswered : Type 0
HeadingAnswered =
    (s : List ℕ) (n section column : ℕ) → Accepted s → InsideColumn s n section column
    → ((heading_asked s n section column).answer.number ≡ 0) × ((heading_asked s n section column).length ≡ 10)

abbrev pub UnitAnswered : Type 0
UnitAnswered =
    (s : List ℕ) (n section column : ℕ) → Accepted s → InsideColumn s n section column
    → ((unit_asked s n section column).answer.number ≡ 0) × ((unit_asked s n section column).length ≡ 10)

-- "The first record has a keyword": a text record that begins a passage does so under the keyword of some record k
abbrev pub BegunInside : Type 0
BegunInside =
    (s : List ℕ) (n i : ℕ) → Accepted s → TextOf s n i → begins (place_in_part s i) ≡ true
    → (k : ℕ) × ((x : InsidePassage s n (take 10 (place_in_part s k)) (pointer_of (place_in_part s i))) × (x.index ≡ i))

-- a passage is its whole records
abbrev pub PassageAnswered : Type 0
PassageAnswered =
    (s : List ℕ) (n : ℕ) (keyword : List ℕ) (pointer : ℕ) → Accepted s → (x : InsidePassage s n keyword pointer)
    → ((passage_asked s n keyword pointer).answer.number ≡ 0)
    × RunFrom s n x.index (passage_asked s n keyword pointer)

-- "No keyword occurs twice in a section, and no pointer twice under one keyword": a keyword and a pointer have one
-- passage
abbrev pub OnePassage : Type 0
OnePassage =
    (s : List ℕ) (n : ℕ) (keyword : List ℕ) (pointer : ℕ) → Accepted s → (x y : InsidePassage s n keyword pointer)
    → x.index ≡ y.index
