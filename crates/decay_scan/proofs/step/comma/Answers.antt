use borrow.Author.Tests.{eq-eqb, ne_eqb}
use mathlib.Core.Path.{refl, sym, ◌∙◌}
use Rattle.paper_decay.specs.Scan.{comma_step}
use Rattle.decay_scan.proofs.step.comma.Goals as goal

pub returns-then-is_whole : goal.returns-then-is_whole
unfolding comma_step
returns-then-is_whole c = rw (c.next_place.ensures, sym c.is_whole.ensures ∙ c.if-is_whole.true) refl

pub returns-then-place-eq0 : goal.returns-then-place-eq0
unfolding comma_step
returns-then-place-eq0 c = rw (c.nowhere.ensures, sym c.is_whole.ensures ∙ c.if-is_whole.false, eq-eqb _ _ c.if-place-eq0.true) refl

pub returns-then-is_empty : goal.returns-then-is_empty
unfolding comma_step
returns-then-is_empty c = rw (c.next_place-then-is_empty.ensures, sym c.is_whole.ensures ∙ c.if-is_whole.false, ne_eqb _ _ c.if-place-eq0.false, sym c.is_empty.ensures ∙ c.if-is_empty.true) refl

pub returns : goal.returns
unfolding comma_step
returns c = rw (c.nowhere-2.ensures, sym c.is_whole.ensures ∙ c.if-is_whole.false, ne_eqb _ _ c.if-place-eq0.false, sym c.is_empty.ensures ∙ c.if-is_empty.false) refl
