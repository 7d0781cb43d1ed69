use Rattle.laws.proofs.Members.{look-done, look-found, look-next}
use Rattle.laws.proofs.Members.{look-all}
use Rattle.paper_rules.specs.Text.{places_of}
use mathlib.Core.Path.{◌∙◌, sym}
use native.Mathlib.Omega.{arith}
use borrow.Author.Rules.{rules}
use Rattle.rules_text.proofs.text.keyword_among.Goals as goal

pub loop-i-init : goal.loop-i-init
unfolding places_of
loop-i-init c = (search rules, look-all _)

pub returns-then-same_keyword : goal.returns-then-same_keyword
returns-then-same_keyword c =
    look-found c.loop-i.invariant.1 (omega arith)
    (rw (← c.field.ensures) (sym c.same_keyword.ensures ∙ c.if-same_keyword.true))

pub loop-i-preserved : goal.loop-i-preserved
loop-i-preserved c = (
  search rules,
  look-next c.loop-i.invariant.1 (omega arith)
      (rw (← c.field.ensures) (sym c.same_keyword.ensures ∙ c.if-same_keyword.false)),
)

pub returns : goal.returns
returns c = look-done c.loop-i.invariant.1 (omega arith)
