use borrow.Author.Tests.{eq-eqb, ne_eqb}
use mathlib.Core.Path.{refl, sym, ◌∙◌}
use Rattle.paper_decay.specs.Scan.{behind_number}
use Rattle.decay_places.proofs.places.behind_number.Goals as goal

pub returns-then-next-eq6 : goal.returns-then-next-eq6
unfolding behind_number
returns-then-next-eq6 c = rw (c.number_more.ensures, eq-eqb _ _ c.if-next-eq6.true) refl

pub returns-then-is_capital : goal.returns-then-is_capital
unfolding behind_number
returns-then-is_capital c = rw (c.half.ensures, ne_eqb _ _ c.if-next-eq6.false, sym c.is_capital.ensures ∙ c.if-is_capital.true) refl

pub returns : goal.returns
unfolding behind_number
returns c = rw (c.number_more-2.ensures, ne_eqb _ _ c.if-next-eq6.false, sym c.is_capital.ensures ∙ c.if-is_capital.false) refl
