-- A walk is made from the row where there is one, and refused by 31 or 32 where there is none.
-- Assumes nothing.
use Prim.Native.Nat.{ℕ}
use mathlib.Core.Path.{◌≡◌, sym, ◌∙◌}
use borrow.Author.Tests.{ne_eqb, eq-eqb}
use Rattle.paper_entry.specs.declared.types.Verdict.{Verdict}
use Rattle.paper_entry.specs.Answer.{answer_for}
use Rattle.paper_questions.specs.declared.types.Row.{Row}
use Rattle.paper_questions.specs.declared.types.Located.{Located}
use Rattle.paper_index.specs.Asked.{no_row}
use Rattle.paper_walk.specs.declared.types.Walk.{Walk}
use Rattle.paper_walk.specs.Walk.{done_walk}
use Rattle.paper_walk.specs.Claims.{start_found}

module _ (v : Verdict) (x : Row) (w : Walk) where
  walk_none : (no_row v x ≡ 0 → ⊥) → done_walk (answer_for v (no_row v x)) ≡ start_found v x w
  walk_none h = rw (ne_eqb (no_row v x) 0 h)

  walk-there : no_row v x ≡ 0 → w ≡ start_found v x w
  walk-there h = rw (eq-eqb (no_row v x) 0 h)

-- by what was located: the verdict and the row
module _ (l : Located) (n : ℕ) (is : n ≡ no_row l.verdict l.row) where
  pub none-by-row : {whole : Walk} (from : Walk) → whole ≡ start_found l.verdict l.row from → (n ≡ 0 → ⊥)
      → done_walk (answer_for l.verdict n) ≡ whole
  none-by-row from by h = rw is (walk_none l.verdict l.row from (λ z. h (is ∙ z)) ∙ sym by)

  pub made-by-row : {whole : Walk} (from : Walk) → whole ≡ start_found l.verdict l.row from → n ≡ 0 → from ≡ whole
  made-by-row from by h = walk-there l.verdict l.row from (sym is ∙ h) ∙ sym by
