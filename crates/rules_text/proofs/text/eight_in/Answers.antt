use Rattle.laws.proofs.Members.{look-done, look-found, look-next}
use Rattle.laws.proofs.Members.{look-all}
use Rattle.paper_rules.specs.Text.{eights_of}
use borrow.Author.Tests.{eq-eqb, ne_eqb}
use mathlib.Core.Path.{◌∙◌, sym}
use native.Mathlib.Omega.{arith}
use borrow.Author.Rules.{rules}
use Rattle.rules_text.proofs.text.eight_in.Goals as goal

pub loop-i-init : goal.loop-i-init
unfolding eights_of
loop-i-init c = (search rules, look-all _)

pub returns-then-number-eight_columns : goal.returns-then-number-eight_columns
returns-then-number-eight_columns c =
    look-found c.loop-i.invariant.1 (omega arith)
    (eq-eqb _ _ (c.if-number-eight_columns.true ∙ c.eight_columns.ensures))

pub loop-i-preserved : goal.loop-i-preserved
loop-i-preserved c = (
  search rules,
  look-next c.loop-i.invariant.1 (omega arith)
      (ne_eqb _ _ (λ e. c.if-number-eight_columns.false (e ∙ sym c.eight_columns.ensures))),
)

pub returns : goal.returns
returns c = look-done c.loop-i.invariant.1 (omega arith)
