use borrow.Author.Tests.{lt-ltb, le-ltb}
use mathlib.Core.Path.{refl, sym, ◌∙◌}
use Rattle.paper_decay.specs.Scan.{unit_step}
use Rattle.decay_places.proofs.places.in_unit.Goals as goal

pub returns-then-count-lt10 : goal.returns-then-count-lt10
unfolding unit_step
returns-then-count-lt10 c = rw (c.half.ensures, sym c.is_capital.ensures ∙ c.if-is_capital.true, lt-ltb _ _ c.if-count-lt10.true) refl

pub returns-then-is_capital : goal.returns-then-is_capital
unfolding unit_step
returns-then-is_capital c = rw (c.nowhere.ensures, sym c.is_capital.ensures ∙ c.if-is_capital.true, le-ltb _ _ c.if-count-lt10.false) refl

pub returns : goal.returns
unfolding unit_step
returns c = rw (c.nowhere-2.ensures, sym c.is_capital.ensures ∙ c.if-is_capital.false) refl
