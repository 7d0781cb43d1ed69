use borrow.Author.Tests.{eq-eqb, ne_eqb}
use mathlib.Core.Path.{refl, sym, ◌∙◌}
use Rattle.paper_decay.specs.Scan.{type_step}
use Rattle.decay_places.proofs.places.in_types.Goals as goal

pub returns-then-is_type : goal.returns-then-is_type
unfolding type_step
returns-then-is_type c = rw (c.standing.ensures, sym c.is_type.ensures ∙ c.if-is_type.true) refl

pub returns-then-inner-eq1 : goal.returns-then-inner-eq1
unfolding type_step
returns-then-inner-eq1 c = rw (c.to_if.ensures, c.standing-then-inner-eq1.ensures, sym c.is_type.ensures ∙ c.if-is_type.false, eq-eqb _ _ c.if-inner-eq1.true) refl

pub returns : goal.returns
unfolding type_step
returns c = rw (c.nowhere.ensures, sym c.is_type.ensures ∙ c.if-is_type.false, ne_eqb _ _ c.if-inner-eq1.false) refl
