use borrow.Author.Tests.{eq-eqb, ne_eqb, lt-ltb, le-ltb}
use mathlib.Core.Path.{refl, sym, ◌∙◌}
use Rattle.paper_decay.specs.Scan.{digits_next}
use Rattle.decay_nuclide.proofs.nuclide.digits_next.Goals as goal

pub returns-then-b-eq48 : goal.returns-then-b-eq48
unfolding digits_next
returns-then-b-eq48 c = rw (sym c.is_digit.ensures ∙ c.if-is_digit.true, eq-eqb _ _ c.if-count-eq0.true, eq-eqb _ _ c.if-b-eq48.true) refl

pub returns-then-count-eq0 : goal.returns-then-count-eq0
unfolding digits_next
returns-then-count-eq0 c = rw (sym c.is_digit.ensures ∙ c.if-is_digit.true, eq-eqb _ _ c.if-count-eq0.true, ne_eqb _ _ c.if-b-eq48.false) refl

pub returns-then-count-lt3 : goal.returns-then-count-lt3
unfolding digits_next
returns-then-count-lt3 c = rw (sym c.is_digit.ensures ∙ c.if-is_digit.true, ne_eqb _ _ c.if-count-eq0.false, lt-ltb _ _ c.if-count-lt3.true) refl

pub returns-then-is_digit : goal.returns-then-is_digit
unfolding digits_next
returns-then-is_digit c = rw (sym c.is_digit.ensures ∙ c.if-is_digit.true, ne_eqb _ _ c.if-count-eq0.false, le-ltb _ _ c.if-count-lt3.false) refl

pub returns : goal.returns
unfolding digits_next
returns c = rw (sym c.is_digit.ensures ∙ c.if-is_digit.false) refl
