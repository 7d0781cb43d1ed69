use borrow.Author.Tests.{eq-eqb, ne_eqb, lt-ltb, le-ltb}
use mathlib.Core.Path.{refl, sym, ◌∙◌}
use Rattle.paper_decay.specs.Scan.{symbol_step}
use Rattle.decay_nuclide.proofs.nuclide.in_symbol.Goals as goal

pub returns-then-count-lt2 : goal.returns-then-count-lt2
unfolding symbol_step
returns-then-count-lt2 c = rw (c.head.ensures, sym c.is_capital.ensures ∙ c.if-is_capital.true, lt-ltb _ _ c.if-count-lt2.true) refl

pub returns-then-is_capital : goal.returns-then-is_capital
unfolding symbol_step
returns-then-is_capital c = rw (c.nowhere.ensures, sym c.is_capital.ensures ∙ c.if-is_capital.true, le-ltb _ _ c.if-count-lt2.false) refl

pub returns-then-count-eq0 : goal.returns-then-count-eq0
unfolding symbol_step
returns-then-count-eq0 c = rw (c.nowhere-then-count-eq0.ensures, sym c.is_capital.ensures ∙ c.if-is_capital.false, eq-eqb _ _ c.if-count-eq0.true) refl

pub returns : goal.returns
unfolding symbol_step
returns c = rw (c.to_if.ensures, c.head-2.ensures, sym c.is_capital.ensures ∙ c.if-is_capital.false, ne_eqb _ _ c.if-count-eq0.false) refl
