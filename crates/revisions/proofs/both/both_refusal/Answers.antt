use Rattle.revisions_pick.proofs.BothBy.{both-named, both-other, both_long}
use mathlib.Core.Path.{◌∙◌}
use Rattle.revisions.proofs.both.both_refusal.Goals as goal

pub returns-then-answer-ne0 : goal.returns-then-answer-ne0
returns-then-answer-ne0 c =
    let n = c in
    both-named _ _ n.judge-v.ensures n.judge-w.ensures n.named_first-named.ensures c.if-answer-ne0.true

pub by_accession-requires : goal.by_accession-requires
by_accession-requires c =
    let n = c in
    let both = both_long _ _ n.judge-v.ensures n.judge-w.ensures n.named_first-named.ensures c.if-answer-ne0.false in
    record { in_bounds = both.0; in_bounds_2 = both.1 }

pub returns : goal.returns
returns c =
    let n = c in
    c.by_accession.ensures
    ∙ both-other _ _ n.judge-v.ensures n.judge-w.ensures n.named_first-named.ensures
    c.if-answer-ne0.false
