use borrow.Author.Tests.{eq-eqb, ne_eqb}
use mathlib.Core.Path.{refl}
use Rattle.questions_first.proofs.first.has_number.Goals as goal

pub returns-then-not-is_subent_n1 : goal.returns-then-not-is_subent_n1
returns-then-not-is_subent_n1 c = rw (← c.is_subent_n1.ensures, c.if-not-is_subent_n1.true) refl

pub returns-then-number-n : goal.returns-then-number-n
returns-then-number-n c = rw (← c.is_subent_n1.ensures, c.if-not-is_subent_n1.false, ← c.subentry_of-number.ensures.value, ne_eqb _ _ c.if-number-n.true) refl

pub returns : goal.returns
returns c = rw (← c.is_subent_n1.ensures, c.if-not-is_subent_n1.false, ← c.subentry_of-number.ensures.value, eq-eqb _ _ c.if-number-n.false) c.is_counted.ensures
