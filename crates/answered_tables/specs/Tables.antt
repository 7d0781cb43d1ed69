-- "each question is answered from the place it names": by the parts of a good entry, with no machine in it.
--
-- A question names a subentry by its number, COMMON or DATA by 1 or 2, a line and a column. The tables of a good entry
-- are plain data (good, Parts): headings, units and lines, each a row of cells.
use Rattle.std.specs.Prelude.{ℕ, ◌-◌, ◌≤◌, ◌≡◌, List, [], ◌∷◌, ◌++◌, length, get_or, take}
use Rattle.paper_number.specs.Reading.{read_field}
use Rattle.paper_number.specs.Digits.{digit_count}
use Rattle.paper_record.specs.declared.types.LineNo.{LineNo}
use Rattle.paper_record.specs.Word.{pointer_of}
use Rattle.paper_entry.specs.Answer.{answer_of}
use Rattle.paper_questions.specs.declared.types.ValueAnswer.{ValueAnswer}
use Rattle.paper_questions.specs.declared.types.PartAnswer.{PartAnswer}
use Rattle.paper_questions.specs.Place.{COMMON-SECTION, DATA-SECTION}
use Rattle.paper_questions.specs.Ask.{value_asked, heading_asked, unit_asked}
use Rattle.paper_questions.specs.PartAnswers.{bytes_in}
use Rattle.rules_plain.specs.Places.{cell}
use Rattle.good.specs.Parts.{Table, present, Subentry, subent, Later, Entry}
use Rattle.good.specs.Tables.{columns_of}
use Rattle.good.specs.Subentries.{own_number}
use Rattle.good.specs.Good.{GoodBytes}

-- ---- the table that a question names

-- the table t is that section of the subentry with that number
pub data TableOf (e : Entry) : ℕ → ℕ → Table → Type 0 where
  first_common : (t : Table) → e.first.common ≡ present t → TableOf e 1 COMMON-SECTION t
  later_common : (before after : List Subentry) (l : Later) (t : Table) → e.later ≡ before ++ (subent l ∷ after)
      → l.common ≡ present t → TableOf e (own_number l.opening) COMMON-SECTION t
  later_data : (before after : List Subentry) (l : Later) (t : Table) → e.later ≡ before ++ (subent l ∷ after)
      → l.values ≡ present t → TableOf e (own_number l.opening) DATA-SECTION t

-- "Records, table lines and columns are numbered from 1."
pub record LineIn (t : Table) (line : LineNo) : Type 0 where
  pub from : 1 ≤ line.0
  pub to : line.0 ≤ length t.lines

pub record ColumnIn (t : Table) (column : ℕ) : Type 0 where
  pub from : 1 ≤ column
  pub to : column ≤ columns_of t

-- ---- the answers

-- a value is what the cell in that line and column reads to, and the digits beside it are those written there
abbrev pub answered_by : List ℕ → ValueAnswer
answered_by l = record { answer = answer_of 0; value = read_field l; digits = digit_count l }

abbrev pub ValueOfTable : Type 0
ValueOfTable =
    (s : List ℕ) (g : GoodBytes s) (n section : ℕ) (t : Table) → TableOf g.entry n section t
    → (line : LineNo) (column : ℕ) → LineIn t line → ColumnIn t column
    → value_asked s n section line column ≡ answered_by (cell (get_or t.lines (line.0 - 1) []) (column - 1))

-- "Heading and unit are handed back as a part of the caller's entry, ten columns, the heading's pointer beside either"
pub record PartOf (s : List ℕ) (words heading : List ℕ) (p : PartAnswer) : Type 0 where
  pub answered : p.answer ≡ answer_of 0
  pub part : bytes_in s p ≡ take 10 words
  pub pointer : p.pointer ≡ pointer_of heading

abbrev pub HeadingOfTable : Type 0
HeadingOfTable =
    (s : List ℕ) (g : GoodBytes s) (n section : ℕ) (t : Table) → TableOf g.entry n section t
    → (column : ℕ) → ColumnIn t column
    → PartOf s (cell t.headings (column - 1)) (cell t.headings (column - 1)) (heading_asked s n section column)

abbrev pub UnitOfTable : Type 0
UnitOfTable =
    (s : List ℕ) (g : GoodBytes s) (n section : ℕ) (t : Table) → TableOf g.entry n section t
    → (column : ℕ) → ColumnIn t column
    → PartOf s (cell t.units (column - 1)) (cell t.headings (column - 1)) (unit_asked s n section column)
