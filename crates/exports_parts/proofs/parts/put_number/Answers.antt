use mathlib.Core.Path.{◌≡◌, refl}
use mathlib.Core.Bool.{false}
use lib.Dec.{eqb}
use borrow.Author.Tests.{eq-eqb, ne_eqb}
use Rattle.exports_words.specs.Words.{lent_after}
use Rattle.exports_parts.specs.Questions.{number_stored}
use Rattle.exports_parts.proofs.parts.put_number.Goals as goal

pub returns-then-refusal-ne0 : goal.returns-then-refusal-ne0
unfolding number_stored lent_after
returns-then-refusal-ne0 c =
    let a = c.args in
    let e : eqb a.answer.number 0 ≡ false = ne_eqb _ _ c.if-refusal-ne0.true in
    record {
      value = c.answer_word.ensures;
      out_after = rw e refl;
    }

pub returns : goal.returns
unfolding number_stored lent_after
returns c =
    record {
      value = c.answer_word-2.ensures;
      out_after = rw (eq-eqb _ _ c.if-refusal-ne0.false) refl;
    }
