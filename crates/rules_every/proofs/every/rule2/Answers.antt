use mathlib.Core.Path.{refl}
use Rattle.paper_rules.specs.Every.{rule2}
use Rattle.rules_every.proofs.every.rule2.Goals as goal

pub returns-then-has_line_feed : goal.returns-then-has_line_feed
unfolding rule2
returns-then-has_line_feed c = rw (← c.has_line_feed.ensures, c.if-has_line_feed.true)

pub returns : goal.returns
unfolding rule2
returns c = rw (← c.has_line_feed.ensures, c.if-has_line_feed.false) refl
