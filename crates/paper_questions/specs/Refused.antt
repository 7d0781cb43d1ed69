-- The refusals of a question, in their order (document 01, "Refusal numbers and their order"):
--
--   "Questions, in this order: 31 entry refused (its refusal, record and column beside it, zeros with any other
--   answer); 32 no such subentry, or NOSUBENT; 33 no such section (1 COMMON, 2 DATA, else 33; NOBIB for passages); 34
--   no such line; 35 no such column; 36 no passage with that keyword place (ten bytes) and pointer byte."
use Rattle.std.specs.Prelude.{ℕ, ◌+◌, ◌-◌, ◌≤◌, Bool, cond, not, List, [], ◌∷◌, ◌++◌, eqb}
use Rattle.paper_record.specs.Text.{within}
use Rattle.paper_record.specs.Identifier.{SUBENT}
use Rattle.paper_record.specs.declared.types.RecordNo.{RecordNo}
use Rattle.paper_record.specs.declared.types.LineNo.{LineNo}
use Rattle.paper_entry.specs.declared.types.Verdict.{Verdict}
use Rattle.paper_entry.specs.Answer.{Refusal, refusal, first_of, is_refused}
use Rattle.paper_questions.specs.declared.types.Row.{Row}
use Rattle.paper_questions.specs.declared.types.Shape.{Shape}
use Rattle.paper_questions.specs.declared.types.Passage.{Passage}
use Rattle.paper_questions.specs.Row.{NONE}
use Rattle.paper_questions.specs.Place.{identifier_at, COMMON-SECTION, DATA-SECTION}

-- Each is given by the verdict on the entry and the row of the subentry.

-- "32 no such subentry, or NOSUBENT": its first record is no SUBENT
abbrev pub is_subent : List ℕ → Row → Bool
is_subent s x = eqb (identifier_at s x.first) SUBENT

-- "33 no such section (1 COMMON, 2 DATA, else 33; NOBIB for passages)"
abbrev pub section_in : Row → ℕ → RecordNo
section_in x section =
    cond (eqb section COMMON-SECTION) x.common
    (cond (eqb section DATA-SECTION) x.«data» NONE)

abbrev pub no_section : RecordNo → Bool
no_section at = eqb at.0 0

-- these three come first, in this order
abbrev pub section_refusals : List ℕ → Verdict → Row → RecordNo → List Refusal
section_refusals s v x at =
    refusal 31 (is_refused v) ∷ refusal 32 (not (is_subent s x)) ∷ refusal 33 (no_section at) ∷ []

-- "34 no such line", "35 no such column"
abbrev pub no_line : Shape → LineNo → Bool
no_line shape line = not (within 1 shape.lines line.0)

abbrev pub no_column : Shape → ℕ → Bool
no_column shape column = not (within 1 shape.columns column)

-- "36 no passage with that keyword place (ten bytes) and pointer byte"
abbrev pub no_passage : Passage → Bool
no_passage p = eqb p.records 0

-- a line and a column that a table has
pub record InShape (shape : Shape) (line : LineNo) (column : ℕ) : Type 0 where
  pub line_from : 1 ≤ line.0
  pub line_to : line.0 ≤ shape.lines
  pub column_from : 1 ≤ column
  pub column_to : column ≤ shape.columns

-- ---- a value

unfoldable pub value_refusal : List ℕ → Verdict → Row → RecordNo → Shape → LineNo → ℕ → ℕ
value_refusal s v x section shape line column =
    first_of
    (section_refusals s v x section
    ++ (refusal 34 (no_line shape line) ∷ refusal 35 (no_column shape column) ∷ []))

-- "headings and units skip 34"
unfoldable pub column_refusal : List ℕ → Verdict → Row → RecordNo → Shape → ℕ → ℕ
column_refusal s v x section shape column =
    first_of (section_refusals s v x section ++ (refusal 35 (no_column shape column) ∷ []))

unfoldable pub passage_refusal : List ℕ → Verdict → Row → Passage → ℕ
passage_refusal s v x p =
    first_of (section_refusals s v x x.bib ++ (refusal 36 (no_passage p) ∷ []))
