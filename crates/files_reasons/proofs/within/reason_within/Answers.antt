use Rattle.files_reasons.proofs.Answers.{raisable, within-said}
use Rattle.files_reasons.proofs.within.reason_within.Goals as goal

pub raised-facts-requires : goal.raised-facts-requires
raised-facts-requires c = raisable _ _ _ c.explain-e.ensures c.requires

pub returns : goal.returns
returns c = within-said _ _ _ _ _ _ c.between-own.ensures c.explain-e.ensures c.raised-facts.ensures
