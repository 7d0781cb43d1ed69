use borrow.Author.Tests.{eq-eqb, ne_eqb, lt-ltb, le-ltb}
use mathlib.Core.Path.{refl, sym, ◌∙◌}
use Rattle.paper_decay.specs.Scan.{flag_digits}
use Rattle.decay_nuclide.proofs.nuclide.in_flag_digits.Goals as goal

pub returns-then-count-lt10 : goal.returns-then-count-lt10
unfolding flag_digits
returns-then-count-lt10 c = rw (c.head.ensures, sym c.is_digit.ensures ∙ c.if-is_digit.true, lt-ltb _ _ c.if-count-lt10.true) refl

pub returns-then-is_digit : goal.returns-then-is_digit
unfolding flag_digits
returns-then-is_digit c = rw (c.nowhere.ensures, sym c.is_digit.ensures ∙ c.if-is_digit.true, le-ltb _ _ c.if-count-lt10.false) refl

pub returns-then-count-eq0 : goal.returns-then-count-eq0
unfolding flag_digits
returns-then-count-eq0 c = rw (c.nowhere-then-count-eq0.ensures, sym c.is_digit.ensures ∙ c.if-is_digit.false, eq-eqb _ _ c.if-count-eq0.true) refl

pub returns : goal.returns
unfolding flag_digits
returns c = rw (c.to_if.ensures, c.head-2.ensures, sym c.is_digit.ensures ∙ c.if-is_digit.false, ne_eqb _ _ c.if-count-eq0.false) refl
