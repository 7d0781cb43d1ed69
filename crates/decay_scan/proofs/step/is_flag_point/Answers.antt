use borrow.Author.Tests.{eq-eqb, ne_eqb}
use mathlib.Core.Path.{refl}
use Rattle.paper_decay.specs.Scan.{is_flag_point}
use Rattle.decay_scan.proofs.step.is_flag_point.Goals as goal

pub returns-then-s-eq0 : goal.returns-then-s-eq0
unfolding is_flag_point
returns-then-s-eq0 c = rw (eq-eqb _ _ c.if-s-eq0.true) refl

pub returns : goal.returns
unfolding is_flag_point
returns c = rw (ne_eqb _ _ c.if-s-eq0.false) refl
