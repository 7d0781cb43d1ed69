use mathlib.Core.Path.{◌≡◌, refl}
use mathlib.Core.Bool.{true, false}
use lib.Dec.{eqb}
use borrow.Author.Tests.{eq-eqb, ne_eqb}
use Rattle.exports_words.specs.Words.{lent_after}
use Rattle.exports_places.specs.Walks.{walk_stored}
use Rattle.exports_places.proofs.walks.put_walk.Goals as goal

pub returns-then-answer-ne0 : goal.returns-then-answer-ne0
unfolding walk_stored lent_after
returns-then-answer-ne0 c =
    let a = c.args in
    let e : eqb a.w.answer.number 0 ≡ false = ne_eqb _ _ c.if-answer-ne0.true in
    record {
      value = c.answer_word.ensures;
      out_after = rw e refl;
    }

pub returns : goal.returns
unfolding walk_stored lent_after
returns c =
    let a = c.args in
    let e : eqb a.w.answer.number 0 ≡ true = eq-eqb _ _ c.if-answer-ne0.false in
    record {
      value = c.answer_word-2.ensures;
      out_after = rw e c.walk_numbers.ensures;
    }
