use Rattle.reasons.proofs.Characters.{five-expected}
use borrow.Author.Rules.{rules}
use Rattle.reasons.proofs.explain.expecting_five.Goals as goal

pub returns : goal.returns
returns c = five-expected c.args.c (search rules)
