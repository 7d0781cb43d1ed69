use Rattle.paper_number.proofs.Steps.{passes}
use Rattle.number_walk.proofs.walk.in_fraction.Goals as goal

pub returns : goal.returns
returns c =
    passes c.args.s.now c.args.from c.args.first _ _ c.digits_from-at.ensures c.args.behind c.requires.1.0 c.requires.1.1
