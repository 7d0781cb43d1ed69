use Rattle.revisions_pick.proofs.PickedBy.{picked-refused, picked-among}
use mathlib.Core.Path.{◌∙◌}
use Rattle.revisions.proofs.subentry.subentry.Goals as goal

pub returns-then-answer-ne0 : goal.returns-then-answer-ne0
returns-then-answer-ne0 c = c.no_part.ensures
    ∙ picked-refused _ _ _ c.both_refusal-both.ensures c.if-answer-ne0.true

pub returns : goal.returns
returns c = c.picked_among.ensures
    ∙ picked-among _ _ _ c.both_refusal-both.ensures c.if-answer-ne0.false
