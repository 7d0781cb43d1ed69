use native.Mathlib.Omega.{arith}
use Rattle.decay_words.proofs.Cutting.{counted_none, counted_next, counted-all}
use Rattle.decay_words.proofs.words.count_words.Goals as goal

pub loop-b-init : goal.loop-b-init
loop-b-init c = counted_none _ _

pub one_more-count-requires : goal.one_more-count-requires
one_more-count-requires c =
    let few = c.loop-b.invariant.few in
    let short = c.well_formed.0.1 in
    omega arith

pub loop-b-preserved : goal.loop-b-preserved
loop-b-preserved c =
    let s = c.loop-b.invariant in
    rw c.one_more-count.ensures (counted_next _ _ _ _ s (omega arith))

pub returns : goal.returns
returns c = counted-all _ _ _ _ c.loop-b.invariant (omega arith)
