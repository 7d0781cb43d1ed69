use borrow.Author.Tests.{eq-eqb, ne_eqb}
use mathlib.Core.Path.{refl, sym, ◌∙◌}
use Rattle.paper_decay.specs.Characters.{is_type}
use Rattle.decay_states.proofs.states.is_type.Goals as goal

pub returns-then-is_capital : goal.returns-then-is_capital
unfolding is_type
returns-then-is_capital c = rw (sym c.is_capital.ensures ∙ c.if-is_capital.true) refl

pub returns-then-is_digit : goal.returns-then-is_digit
unfolding is_type
returns-then-is_digit c = rw (sym c.is_capital.ensures ∙ c.if-is_capital.false, sym c.is_digit.ensures ∙ c.if-is_digit.true) refl

pub returns-then-b-eq43 : goal.returns-then-b-eq43
unfolding is_type
returns-then-b-eq43 c = rw (sym c.is_capital.ensures ∙ c.if-is_capital.false, sym c.is_digit.ensures ∙ c.if-is_digit.false, eq-eqb _ _ c.if-b-eq43.true) refl

pub returns : goal.returns
unfolding is_type
returns c = rw (sym c.is_capital.ensures ∙ c.if-is_capital.false, sym c.is_digit.ensures ∙ c.if-is_digit.false, ne_eqb _ _ c.if-b-eq43.false) refl
