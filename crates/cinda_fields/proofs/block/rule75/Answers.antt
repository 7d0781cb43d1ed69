use Rattle.paper_cinda.specs.Rules.{rule75}
use mathlib.Core.Path.{refl}
use Rattle.cinda_fields.proofs.Sequence.{sequence-bad, sequence-good}
use Rattle.cinda_fields.proofs.block.rule75.Goals as goal

pub returns-then-not-is_good_block : goal.returns-then-not-is_good_block
unfolding rule75
returns-then-not-is_good_block c = rw (← c.is_good_block.ensures, c.if-not-is_good_block.true) refl

pub returns-then-not-is_integer_at : goal.returns-then-not-is_integer_at
returns-then-not-is_integer_at c =
    let b = c.is_good_block in
    let q = c.is_integer_at in
    sequence-bad _ b.result q.result b.ensures q.ensures c.if-not-is_good_block.false
    c.if-not-is_integer_at.true

pub returns : goal.returns
returns c =
    let b = c.is_good_block in
    let q = c.is_integer_at in
    sequence-good _ b.result q.result b.ensures q.ensures c.if-not-is_good_block.false
    c.if-not-is_integer_at.false
