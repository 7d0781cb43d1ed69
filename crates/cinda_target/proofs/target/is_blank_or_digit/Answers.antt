use borrow.Author.Tests.{eq-eqb, ne_eqb}
use Rattle.cinda_target.proofs.target.is_blank_or_digit.Goals as goal

pub returns-then-b-eq32 : goal.returns-then-b-eq32
returns-then-b-eq32 c = rw (eq-eqb _ _ c.if-b-eq32.true)

pub returns : goal.returns
returns c = rw (ne_eqb _ _ c.if-b-eq32.false) c.is_from.ensures
