-- Refusals in their order: those of the section come first, and where none is given the asked line and column are
-- there. Assumes nothing.
use Prim.Native.Nat.{ℕ, ◌≤◌}
use mathlib.Core.Path.{◌≡◌, refl}
use mathlib.Core.Bool.{Bool, true, false, not}
use mathlib.Core.List.{List, [], ◌∷◌, ◌++◌}
use native.Mathlib.Omega.{arith}
use Rattle.paper_record.specs.Text.{within}
use Rattle.paper_record.specs.declared.types.RecordNo.{RecordNo}
use Rattle.paper_record.specs.declared.types.LineNo.{LineNo}
use Rattle.paper_record.proofs.Within.{within-bounds}
use Rattle.paper_entry.specs.declared.types.Verdict.{Verdict}
use Rattle.paper_entry.specs.Answer.{Refusal, refusal, first_of, is_refused}
use Rattle.paper_entry.proofs.Firsts.{none-given}
use Rattle.paper_questions.specs.declared.types.Row.{Row}
use Rattle.paper_questions.specs.declared.types.Shape.{Shape}
use Rattle.paper_questions.specs.Refused.{is_subent, no_section, section_refusals, InShape, value_refusal}
use Rattle.paper_questions.specs.Refused.{column_refusal}

abbrev three : Bool → Bool → Bool → List Refusal → List Refusal
three a b c ys = refusal 31 a ∷ refusal 32 b ∷ refusal 33 c ∷ ys

pub section-none : (s : List ℕ) (v : Verdict) (x : Row) (at : RecordNo) (ys : List Refusal)
    → first_of (section_refusals s v x at) ≡ 0 → first_of (section_refusals s v x at ++ ys) ≡ first_of ys
section-none s v x at ys e = none-given (section_refusals s v x at) ys refl e

last_one : (a b c e : Bool) → first_of (three a b c (refusal 35 (not e) ∷ [])) ≡ 0 → e ≡ true
last_one true b c e h = absurd (omega arith)
last_one false true c e h = absurd (omega arith)
last_one false false true e h = absurd (omega arith)
last_one false false false true h = refl
last_one false false false false h = absurd (omega arith)

last-two : (a b c d e : Bool) → first_of (three a b c (refusal 34 (not d) ∷ refusal 35 (not e) ∷ [])) ≡ 0
    → (d ≡ true) × (e ≡ true)
last-two true b c d e h = absurd (omega arith)
last-two false true c d e h = absurd (omega arith)
last-two false false true d e h = absurd (omega arith)
last-two false false false false e h = absurd (omega arith)
last-two false false false true true h = (refl, refl)
last-two false false false true false h = absurd (omega arith)

module _ (s : List ℕ) (v : Verdict) (x : Row) (at : RecordNo) (shape : Shape) where
  -- a value that is not refused has its line and its column
  pub value-inside : (line : LineNo) (column : ℕ) → value_refusal s v x at shape line column ≡ 0
      → InShape shape line column
  unfolding value_refusal
  value-inside line column e =
      let (l, k) =
      last-two (is_refused v) (not (is_subent s x)) (no_section at) (within 1 shape.lines line.0)
      (within 1 shape.columns column) e in
      let (a, b) = within-bounds 1 shape.lines line.0 l in
      let (c, d) = within-bounds 1 shape.columns column k in
      record { line_from = a; line_to = b; column_from = c; column_to = d }

  -- a heading or a unit has its column
  pub column-inside : (column : ℕ) → column_refusal s v x at shape column ≡ 0
      → (1 ≤ column) × (column ≤ shape.columns)
  unfolding column_refusal
  column-inside column e =
      within-bounds 1 shape.columns column
      (last_one (is_refused v) (not (is_subent s x)) (no_section at) (within 1 shape.columns column) e)
