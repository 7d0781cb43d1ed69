-- A value, heading or unit that is answered is inside: its entry is accepted, the row of the subentry names the
-- section's own record, and line and column are among those that this record announces.
-- Assumes nothing.
use Prim.Native.Nat.{ℕ, ◌-◌, ◌≤◌}
use mathlib.Core.Path.{◌≡◌, refl, sym, ◌∙◌}
use mathlib.Core.Bool.{Bool, true, false, cond}
use mathlib.Core.List.{List, [], ◌∷◌}
use lib.Dec.{eqb}
use borrow.Author.Tests.{eqb-true}
use Rattle.laws.specs.Blocks.{block_at}
use Rattle.paper_record.specs.Fields.{fields_of}
use Rattle.paper_record.specs.declared.types.LineNo.{LineNo}
use Rattle.paper_record.specs.declared.types.RecordNo.{RecordNo}
use Rattle.paper_entry.specs.Judging.{judge_of, Accepted}
use Rattle.paper_entry.specs.Answer.{refusal}
use Rattle.paper_entry.proofs.Answers.{answer-number}
use Rattle.paper_questions.specs.Row.{NONE}
use Rattle.paper_questions.specs.Located.{row_of}
use Rattle.paper_questions.specs.Place.{COMMON-SECTION, DATA-SECTION, shape_of}
use Rattle.paper_questions.specs.Refused.{section_in, InShape, no_line, no_column, value_refusal, column_refusal}
use Rattle.paper_questions.specs.ValueAnswers.{value_by}
use Rattle.paper_questions.specs.PartAnswers.{heading_by, unit_by}
use Rattle.paper_questions.specs.Ask.{value_asked, heading_asked, unit_asked}
use Rattle.paper_questions.proofs.Parts.{part-number}
use Rattle.paper_questions.proofs.InOrder.{value-inside, column-inside}
use Rattle.paper_questions.proofs.RowChanges.{common, table}
use Rattle.inside.specs.Inside.{OpensSection, InsideColumn, InsideValue, lines_announced}
use Rattle.inside.specs.Asked.{ValueInside, HeadingInside, UnitInside, AnsweredSaid, AnsweredTen}
use Rattle.entry_walk.proofs.TableLaid.{lines_of}
use Rattle.inside.proofs.RowFound.{Opening}
use Rattle.inside.proofs.TextLaid.{row-opening}
use Rattle.inside.proofs.Answered.{section_no, section_of, shape-columns, shape-lines, value-answered}
use Rattle.inside.proofs.Answered.{heading-answered, unit-answered}
use Rattle.inside.proofs.NotRefused.{asked_of}

-- ---- the section that is asked for: DATA where b is true, else COMMON

-- a section that the row names is one of the two, and its own record opens it
pub section-named : (s : List ℕ) (n section : ℕ) → Accepted s → ((section_in (row_of s n) section).0 ≡ 0 → ⊥)
    → (b : Bool) × ((section ≡ section_no b) × Opening s n (section_of b) ((section_in (row_of s n) section).0 - 1))
section-named s n section accepted = by_tests (eqb section COMMON-SECTION) refl (eqb section DATA-SECTION) refl
  where
    at : Bool → Bool → RecordNo
    at p q = cond p (row_of s n).common (cond q (row_of s n).«data» NONE)

    by_tests : (p : Bool) → eqb section COMMON-SECTION ≡ p → (q : Bool) → eqb section DATA-SECTION ≡ q
        → ((at p q).0 ≡ 0 → ⊥) → (b : Bool) × ((section ≡ section_no b) × Opening s n (section_of b) ((at p q).0 - 1))
    by_tests true p q u some = (false, (eqb-true section COMMON-SECTION p, row-opening s n accepted common some))
    by_tests false p true u some = (true, (eqb-true section DATA-SECTION u, row-opening s n accepted table some))
    by_tests false p false u some = absurd (some refl)

pub opens_of : (s : List ℕ) (n : ℕ) (b : Bool) (a : ℕ) → Opening s n (section_of b) a
    → OpensSection s n (section_no b) a
opens_of s n true a o = o
opens_of s n false a o = o

pub lines_same : (b : Bool) (r : List ℕ) → lines_announced (section_no b) r ≡ lines_of b (fields_of r)
lines_same true r = refl
lines_same false r = refl

module _ (s : List ℕ) (n : ℕ) (b : Bool) (accepted : Accepted s) (a : ℕ) (o : Opening s n (section_of b) a) where
  value-is-inside : (line : LineNo) (column : ℕ)
      → InShape (shape_of s (section_no b) (section_in (row_of s n) (section_no b))) line column
      → InsideValue s n (section_no b) line column
  value-is-inside line column i =
      record {
        index = a;
        opens = opens_of s n b a o;
        column_from = i.column_from;
        column_to = rw (shape-columns s accepted n b a o) at i.column_to;
        line_from = i.line_from;
        line_to = rw (lines_same b (block_at 81 s a)) (rw (shape-lines s accepted n b a o) at i.line_to);
      }

  column-is-inside : (column : ℕ) → 1 ≤ column
      → column ≤ (shape_of s (section_no b) (section_in (row_of s n) (section_no b))).columns
      → InsideColumn s n (section_no b) column
  column-is-inside column from to =
      record { index = a; opens = opens_of s n b a o; from = from; to = rw (shape-columns s accepted n b a o) at to }

-- ---- a question that is not refused

module _ (s : List ℕ) (n section : ℕ) where
  abbrev own : RecordNo
  own = section_in (row_of s n) section

  pub value-not-refused : (line : LineNo) (column : ℕ) → (value_asked s n section line column).answer.number ≡ 0
      → value_refusal s (judge_of s) (row_of s n) own (shape_of s section own) line column ≡ 0
  unfolding value_asked value_by
  value-not-refused line column e = sym (answer-number (judge_of s) _) ∙ e

  asked-value : (line : LineNo) (column : ℕ)
      → value_refusal s (judge_of s) (row_of s n) own (shape_of s section own) line column ≡ 0
      → Accepted s × InsideValue s n section line column
  unfolding value_refusal
  asked-value line column none =
      let shape = shape_of s section own in
      let k =
      asked_of s (row_of s n) own (refusal 34 (no_line shape line) ∷ refusal 35 (no_column shape column) ∷ []) none in
      let i = value-inside s (judge_of s) (row_of s n) own shape line column none in
      let (b, (e, o)) = section-named s n section k.accepted k.some in
      (k.accepted, rw e (value-is-inside s n b k.accepted (own.0 - 1) o line column (rw e at i)))

  asked-column : (column : ℕ) → column_refusal s (judge_of s) (row_of s n) own (shape_of s section own) column ≡ 0
      → Accepted s × InsideColumn s n section column
  unfolding column_refusal
  asked-column column none =
      let shape = shape_of s section own in
      let k = asked_of s (row_of s n) own (refusal 35 (no_column shape column) ∷ []) none in
      let (from, to) = column-inside s (judge_of s) (row_of s n) own shape column none in
      let (b, (e, o)) = section-named s n section k.accepted k.some in
      (k.accepted, rw e (column-is-inside s n b k.accepted (own.0 - 1) o column from (rw e at to)))

-- THE THEOREMS
pub value-asked : ValueInside
value-asked s n section line column e =
    asked-value s n section line column (value-not-refused s n section line column e)

pub heading-asked : HeadingInside
unfolding heading_asked heading_by
heading-asked s n section column e = asked-column s n section column (sym (part-number s (judge_of s) _ _ 10 _) ∙ e)

pub unit-asked : UnitInside
unfolding unit_asked unit_by
unit-asked s n section column e = asked-column s n section column (sym (part-number s (judge_of s) _ _ 10 _) ∙ e)

pub answered-said : AnsweredSaid
answered-said s n section line column e =
    let (accepted, i) = value-asked s n section line column e in
    (value-answered s n section line column accepted i).1

pub answered-ten : AnsweredTen
answered-ten s n section column = (
  λ e. let (accepted, i) = heading-asked s n section column e in (heading-answered s n section column accepted i).1,
  λ e. let (accepted, i) = unit-asked s n section column e in (unit-answered s n section column accepted i).1,
)
