use borrow.Author.Tests.{eq-eqb, ne_eqb, lt-ltb, le-ltb}
use mathlib.Core.Path.{refl}
use Rattle.paper_decay.specs.Scan.{inside_step}
use Rattle.decay_scan.proofs.step.inside.Goals as goal

pub returns-then-place-eq0 : goal.returns-then-place-eq0
unfolding inside_step
returns-then-place-eq0 c = rw (c.in_head.ensures, eq-eqb _ _ c.if-place-eq0.true) refl

pub returns-then-place-lt5 : goal.returns-then-place-lt5
unfolding inside_step
returns-then-place-lt5 c = rw (c.in_field.ensures, ne_eqb _ _ c.if-place-eq0.false, lt-ltb _ _ c.if-place-lt5.true) refl

pub returns : goal.returns
unfolding inside_step
returns c = rw (c.nowhere.ensures, ne_eqb _ _ c.if-place-eq0.false, le-ltb _ _ c.if-place-lt5.false) refl
