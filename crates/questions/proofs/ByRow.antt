-- A question is answered from the row where there is one, and refused by 31 or 32 where there is none.
-- Assumes nothing.
use Prim.Native.Nat.{ℕ}
use mathlib.Core.Path.{◌≡◌, sym, ◌∙◌}
use mathlib.Core.List.{List}
use borrow.Author.Tests.{ne_eqb, eq-eqb}
use Rattle.paper_number.specs.declared.types.Reading.TheVariants.{Blank}
use Rattle.paper_record.specs.declared.types.LineNo.{LineNo}
use Rattle.paper_entry.specs.declared.types.Verdict.{Verdict}
use Rattle.paper_entry.specs.Answer.{answer_for}
use Rattle.paper_questions.specs.declared.types.Row.{Row}
use Rattle.paper_questions.specs.declared.types.ValueAnswer.{ValueAnswer}
use Rattle.paper_questions.specs.declared.types.PartAnswer.{PartAnswer}
use Rattle.paper_questions.specs.declared.types.Located.{Located}
use Rattle.paper_questions.specs.PartAnswers.{no_part}
use Rattle.paper_index.specs.Asked.{no_row, value_found, part_found}

module _ (v : Verdict) (x : Row) where
  value_none : (a : ValueAnswer) → (no_row v x ≡ 0 → ⊥)
      → record { answer = answer_for v (no_row v x); value = Blank; digits = 0 } ≡ value_found v x a
  unfolding value_found
  value_none a h = rw (ne_eqb (no_row v x) 0 h)

  value_there : (a : ValueAnswer) → no_row v x ≡ 0 → a ≡ value_found v x a
  unfolding value_found
  value_there a h = rw (eq-eqb (no_row v x) 0 h)

  part_none : (p : PartAnswer) → (no_row v x ≡ 0 → ⊥) → no_part (answer_for v (no_row v x)) ≡ part_found v x p
  unfolding part_found
  part_none p h = rw (ne_eqb (no_row v x) 0 h)

  part-there : (p : PartAnswer) → no_row v x ≡ 0 → p ≡ part_found v x p
  unfolding part_found
  part-there p h = rw (eq-eqb (no_row v x) 0 h)

-- by what was located: the verdict and the row
module _ (l : Located) (n : ℕ) (is : n ≡ no_row l.verdict l.row) where
  pub value-refused : {whole : ValueAnswer} (from : ValueAnswer) → whole ≡ value_found l.verdict l.row from
      → (n ≡ 0 → ⊥) → record { answer = answer_for l.verdict n; value = Blank; digits = 0 } ≡ whole
  value-refused from by h =
      rw is (value_none l.verdict l.row from (λ z. h (is ∙ z)) ∙ sym by)

  pub value-answered : {whole : ValueAnswer} (from : ValueAnswer) → whole ≡ value_found l.verdict l.row from
      → n ≡ 0 → from ≡ whole
  value-answered from by h = value_there l.verdict l.row from (sym is ∙ h) ∙ sym by

  pub part-refused : {whole : PartAnswer} (from : PartAnswer) → whole ≡ part_found l.verdict l.row from
      → (n ≡ 0 → ⊥) → no_part (answer_for l.verdict n) ≡ whole
  part-refused from by h = rw is (part_none l.verdict l.row from (λ z. h (is ∙ z)) ∙ sym by)

  pub part-answered : {whole : PartAnswer} (from : PartAnswer) → whole ≡ part_found l.verdict l.row from
      → n ≡ 0 → from ≡ whole
  part-answered from by h = part-there l.verdict l.row from (sym is ∙ h) ∙ sym by
