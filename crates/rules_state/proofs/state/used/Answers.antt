use Rattle.paper_rules.specs.State.{used}
use Rattle.rules_state.proofs.state.used.Goals as goal

pub returns-then-row_ends-clause-value : goal.returns-then-row_ends-clause-value
unfolding used
returns-then-row_ends-clause-value c = rw (← c.row_ends.ensures, c.if-row_ends.true)

pub returns-else-row_ends-clause-value : goal.returns-else-row_ends-clause-value
unfolding used
returns-else-row_ends-clause-value c = rw (← c.row_ends.ensures, c.if-row_ends.false)
