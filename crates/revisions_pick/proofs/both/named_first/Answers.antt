use Rattle.revisions_pick.specs.Among.{named_first}
use borrow.Author.Tests.{eq-eqb, ne_eqb}
use mathlib.Core.Path.{refl}
use Rattle.revisions_pick.proofs.both.named_first.Goals as goal

pub returns-then-v-ne0 : goal.returns-then-v-ne0
unfolding named_first
returns-then-v-ne0 c = rw (c.beside_verdict-answer.ensures, ne_eqb _ _ c.if-v-ne0.true) refl

pub returns-then-w-ne0 : goal.returns-then-w-ne0
unfolding named_first
returns-then-w-ne0 c =
    let w = c in
    rw (c.beside_verdict-answer-then-w-ne0.ensures, eq-eqb _ _ w.if-v-ne0.false, ne_eqb _ _ w.if-w-ne0.true) refl

pub returns : goal.returns
unfolding named_first
returns c =
    let w = c in rw (c.answer_of-answer.ensures, eq-eqb _ _ w.if-v-ne0.false, eq-eqb _ _ w.if-w-ne0.false) refl
