use Rattle.paper_number.proofs.Steps.{leads}
use Rattle.number_walk.proofs.walk.past_blanks.Goals as goal

pub returns : goal.returns
returns c = leads c.args.s.now _ c.blanks_from.ensures
