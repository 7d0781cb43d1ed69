-- A walk that is made: its answer, the value question's refusals and places, and that a refused one is done.
-- Assumes nothing.
use Prim.Native.Nat.{ℕ, ◌≤◌}
use mathlib.Core.Path.{◌≡◌, refl, sym, ap, ◌∙◌}
use mathlib.Core.Bool.{Bool, true, false, cond}
use mathlib.Core.List.{List, [], ◌∷◌}
use mathlib.Core.Logic.{◌⊎◌, inl, inr}
use native.Mathlib.Omega.{arith}
use lib.Dec.{eqb, leb}
use borrow.Author.Tests.{leb-true, le-leb, eqb-true, eq-eqb, ne_eqb}
use Rattle.paper_record.specs.System.{up_to}
use Rattle.paper_record.specs.declared.types.RecordNo.{RecordNo}
use Rattle.paper_record.specs.declared.types.LineNo.{LineNo}
use Rattle.paper_rules.specs.Limits.{MOST-COLUMNS, MOST-LINES}
use Rattle.paper_rules.specs.Counts.{count_n1, count_n2}
use Rattle.paper_entry.specs.declared.types.Answer.{Answer}
use Rattle.paper_entry.specs.Judging.{judge_of}
use Rattle.paper_entry.specs.Answer.{Refusal, refusal, first_of, answer_for}
use Rattle.paper_entry.proofs.Answers.{answer-number}
use Rattle.paper_entry.proofs.Firsts.{first-given}
use Rattle.paper_questions.specs.declared.types.Shape.{Shape}
use Rattle.paper_questions.specs.Located.{row_of}
use Rattle.paper_questions.specs.Place.{COMMON-SECTION, fields_at, shape_of}
use Rattle.paper_questions.specs.Refused.{InShape, section_in, section_refusals, no_line, no_column, value_refusal}
use Rattle.paper_questions.specs.ValueAnswers.{value_by}
use Rattle.paper_questions.specs.Ask.{value_asked}
use Rattle.paper_questions.proofs.InOrder.{section-none, value-inside}
use Rattle.paper_walk.specs.declared.types.Walk.{Walk}
use Rattle.paper_walk.specs.Walk.{done_walk, walk_from, start_by, start_of}
use Rattle.paper_walk.specs.Claims.{value_there, field_there, StartAnswer, StartRefused, StartMade, WalkPlaces}
use Rattle.paper_walk.specs.Claims.{WalkEnds, WalkRefused}
use Rattle.paper_walk.proofs.Standing.{done-stands}
use Rattle.paper_walk.proofs.Order.{any-ends, never}

-- ---- its answer

-- made or refused, it is the one that its number says
pub said-either : (said : ℕ → Answer) (number : ℕ) (u w : Walk) → u.answer ≡ said 0 → w.answer ≡ said number
    → (cond (eqb number 0) u w).answer ≡ said number
said-either said number u w e f = by-test (eqb number 0) refl
  where
    by-test : (t : Bool) → eqb number 0 ≡ t → (cond t u w).answer ≡ said number
    by-test true k = e ∙ sym (ap said (eqb-true number 0 k))
    by-test false k = f

pub start-answer : StartAnswer
unfolding start_of start_by
start-answer s n section =
    let at = section_in (row_of s n) section in
    said-either (answer_for (judge_of s)) (first_of (section_refusals s (judge_of s) (row_of s n) at)) _ _ refl refl

-- ---- a shape is no larger than a table can be

up-to : (most n : ℕ) → up_to most n ≤ most
up-to most n = by-test (leb n most) refl
  where
    by-test : (t : Bool) → leb n most ≡ t → cond t n 0 ≤ most
    by-test true e = leb-true n most e
    by-test false e = omega arith

module _ (s : List ℕ) (section : ℕ) (at : RecordNo) where
  pub few-columns : (shape_of s section at).columns ≤ MOST-COLUMNS
  unfolding shape_of
  few-columns = up-to MOST-COLUMNS (count_n1 (fields_at s at))

  pub few-lines : (shape_of s section at).lines ≤ MOST-LINES
  unfolding shape_of
  few-lines = by-test (eqb section COMMON-SECTION)
    where
      by-test : (t : Bool) → cond t 1 (up_to MOST-LINES (count_n2 (fields_at s at))) ≤ MOST-LINES
      by-test true = omega arith
      by-test false = up-to MOST-LINES (count_n2 (fields_at s at))

-- ---- line and column are refused behind the section

line-or-column : (a b : Bool)
    → let number = first_of (refusal 34 a ∷ refusal 35 b ∷ []) in
    (number ≡ 0) ⊎ ((number ≡ 34) ⊎ (number ≡ 35))
line-or-column true b = inr (inl refl)
line-or-column false true = inr (inr refl)
line-or-column false false = inl refl

module _ (s : List ℕ) (n section : ℕ) where
  abbrev own : RecordNo
  own = section_in (row_of s n) section

  abbrev shape : Shape
  shape = shape_of s section own

  abbrev number : ℕ
  number = first_of (section_refusals s (judge_of s) (row_of s n) own)

  pub number-said : (start_of s n section).answer.number ≡ number
  number-said = ap (λ (a : Answer). a.number) (start-answer s n section) ∙ answer-number (judge_of s) number

  refused-walk : (number ≡ 0 → ⊥) → start_of s n section ≡ done_walk (answer_for (judge_of s) number)
  unfolding start_of start_by
  refused-walk h = rw (ne_eqb number 0 h) refl

  module _ (line : LineNo) (column : ℕ) where
    abbrev later : List Refusal
    later = refusal 34 (no_line shape line) ∷ refusal 35 (no_column shape column) ∷ []

    -- the value question's own answer
    asked-answer : (value_asked s n section line column).answer
        ≡ answer_for (judge_of s) (value_refusal s (judge_of s) (row_of s n) own shape line column)
    unfolding value_asked value_by
    asked-answer = refl

    asked-number : (value_asked s n section line column).answer.number
        ≡ value_refusal s (judge_of s) (row_of s n) own shape line column
    asked-number = ap (λ (a : Answer). a.number) asked-answer ∙ answer-number (judge_of s) _

    section-first : (number ≡ 0 → ⊥) → value_refusal s (judge_of s) (row_of s n) own shape line column ≡ number
    unfolding value_refusal
    section-first h = first-given (section_refusals s (judge_of s) (row_of s n) own) later h

    section-passed : number ≡ 0 → value_refusal s (judge_of s) (row_of s n) own shape line column ≡ first_of later
    unfolding value_refusal
    section-passed e = section-none s (judge_of s) (row_of s n) own later e

    module _ (none : number ≡ 0) where
      -- the value question there is not refused
      not-refused : InShape shape line column → value_refusal s (judge_of s) (row_of s n) own shape line column ≡ 0
      not-refused p =
          let last : first_of later ≡ 0 =
          rw (
            le-leb 1 line.0 p.line_from,
            le-leb line.0 shape.lines p.line_to,
            le-leb 1 column p.column_from,
            le-leb column shape.columns p.column_to,
          ) refl in
          section-passed none ∙ last

      place-asked : InShape shape line column → (value_asked s n section line column).answer.number ≡ 0
      place-asked p = asked-number ∙ not-refused p

      asked-place : (value_asked s n section line column).answer.number ≡ 0 → InShape shape line column
      asked-place e = value-inside s (judge_of s) (row_of s n) own shape line column (sym asked-number ∙ e)

      -- it says what the field there says
      pub value-said : InShape shape line column
          → value_there s n section line column ≡ field_there s (walk_from own shape) line column
      unfolding value_asked value_by
      value-said p = rw (not-refused p) refl

  pub made : number ≡ 0 → start_of s n section ≡ walk_from own shape
  unfolding start_of start_by
  made none = rw (eq-eqb number 0 none) refl

pub start-refused : StartRefused
start-refused s n section line column h =
    let some : number s n section ≡ 0 → ⊥ = λ e. h (number-said s n section ∙ e) in
    start-answer s n section
    ∙ ap (answer_for (judge_of s)) (sym (section-first s n section line column some))
    ∙ sym (asked-answer s n section line column)

pub start-made : StartMade
start-made s n section line column e =
    let shape = shape_of s section (section_in (row_of s n) section) in
    rw (
      asked-number s n section line column,
      section-passed s n section line column (sym (number-said s n section) ∙ e),
    ) (line-or-column (no_line shape line) (no_column shape column))

pub walk-places : WalkPlaces
walk-places s n section e line column =
    let none : number s n section ≡ 0 = sym (number-said s n section) ∙ e in
    rw (made s n section none)
    (asked-place s n section line column none, place-asked s n section line column none)

pub walk_ends : WalkEnds
walk_ends s n section j = any-ends s (start_of s n section) j

pub walk_refused : WalkRefused
walk_refused s n section h i =
    rw (refused-walk s n section (λ e. h (number-said s n section ∙ e)))
    (never s (done_walk (answer_for (judge_of s) (number s n section)))
    (done-stands (answer_for (judge_of s) (number s n section))) i)
