use mathlib.Core.Path.{refl, sym, ◌∙◌}
use Rattle.paper_decay.specs.Scan.{close_step}
use Rattle.decay_scan.proofs.step.close.Goals as goal

pub returns-then-is_flag_point : goal.returns-then-is_flag_point
unfolding close_step
returns-then-is_flag_point c = rw (c.head.ensures, sym c.is_flag_point.ensures ∙ c.if-is_flag_point.true) refl

pub returns : goal.returns
unfolding close_step
returns c = rw (c.to_if.ensures, c.fresh.ensures, c.is_whole.ensures, sym c.is_flag_point.ensures ∙ c.if-is_flag_point.false) refl
