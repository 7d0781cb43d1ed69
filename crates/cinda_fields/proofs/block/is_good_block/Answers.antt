use Rattle.paper_cinda.specs.Rules.{good_block}
use Rattle.cinda_fields.proofs.block.is_good_block.Goals as goal

pub returns-then-not-is_capital_or_digit : goal.returns-then-not-is_capital_or_digit
unfolding good_block
returns-then-not-is_capital_or_digit c = rw (← c.is_capital_or_digit.ensures, c.if-not-is_capital_or_digit.true)

pub returns : goal.returns
unfolding good_block
returns c = rw (← c.is_capital_or_digit.ensures, c.if-not-is_capital_or_digit.false) c.is_integer_at.ensures
