use Rattle.paper_cinda.specs.Rules.{good_isomer, rule74}
use mathlib.Core.Path.{refl}
use Rattle.cinda_target.proofs.target.rule74.Goals as goal

pub returns-then-not-is_good_z : goal.returns-then-not-is_good_z
unfolding rule74
returns-then-not-is_good_z c = rw (← c.is_good_z.ensures, c.if-not-is_good_z.true) refl

pub returns-then-not-is_good_mass : goal.returns-then-not-is_good_mass
unfolding rule74
returns-then-not-is_good_mass c = rw (← c.is_good_z.ensures, c.if-not-is_good_z.false, ← c.is_good_mass.ensures, c.if-not-is_good_mass.true) refl

pub returns-then-not-is_blank_or_digit : goal.returns-then-not-is_blank_or_digit
unfolding rule74 good_isomer
returns-then-not-is_blank_or_digit c = rw (← c.is_good_z.ensures, c.if-not-is_good_z.false, ← c.is_good_mass.ensures, c.if-not-is_good_mass.false, ← c.is_blank_or_digit.ensures, c.if-not-is_blank_or_digit.true) refl

pub returns : goal.returns
unfolding rule74 good_isomer
returns c = rw (← c.is_good_z.ensures, c.if-not-is_good_z.false, ← c.is_good_mass.ensures, c.if-not-is_good_mass.false, ← c.is_blank_or_digit.ensures, c.if-not-is_blank_or_digit.false) refl
