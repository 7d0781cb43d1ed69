use mathlib.Core.Path.{refl, sym, ◌∙◌}
use Rattle.paper_decay.specs.Scan.{mark_step}
use Rattle.decay_places.proofs.places.in_mark.Goals as goal

pub returns-then-is_capital : goal.returns-then-is_capital
unfolding mark_step
returns-then-is_capital c = rw (c.half.ensures, sym c.is_capital.ensures ∙ c.if-is_capital.true) refl

pub returns : goal.returns
unfolding mark_step
returns c = rw (c.number_more.ensures, ← c.number_next-n.ensures, sym c.is_capital.ensures ∙ c.if-is_capital.false) refl
