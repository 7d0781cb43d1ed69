use mathlib.Core.Bool.{true}
use lib.Dec.{eqb}
use mathlib.Core.Path.{◌≡◌, refl}
use borrow.Author.Tests.{eq-eqb, ne_eqb}
use Rattle.exports_words.specs.Words.{lent_after}
use Rattle.exports_parts.specs.Questions.{value_answer, value_stored}
use Rattle.exports_parts.proofs.parts.put_value.Goals as goal

pub returns-then-answer-eq0 : goal.returns-then-answer-eq0
unfolding value_answer value_stored lent_after
returns-then-answer-eq0 c =
    let d = c in
    let e : eqb d.args.v.answer.number 0 ≡ true = eq-eqb _ _ d.if-answer-eq0.true in
    record {
      value = rw e c.put_reading.ensures.value;
      out_after = rw e c.put_reading.ensures.out_after;
    }

pub returns : goal.returns
unfolding value_answer value_stored lent_after
returns c =
    let e = ne_eqb _ _ c.if-answer-eq0.false in
    record {
      value = rw e c.answer_word.ensures;
      out_after = rw e refl;
    }
