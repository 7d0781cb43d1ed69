use mathlib.Core.Path.{refl}
use borrow.Author.Tests.{eq-eqb, ne_eqb}
use Rattle.exports_words.specs.Words.{lent_after}
use Rattle.exports_parts.specs.Questions.{part_stored}
use Rattle.exports_parts.proofs.parts.put_part.Goals as goal

pub returns-then-answer-ne0 : goal.returns-then-answer-ne0
unfolding part_stored lent_after
returns-then-answer-ne0 c =
    record {
      value = c.answer_word.ensures;
      out_after = rw (ne_eqb _ _ c.if-answer-ne0.true) refl;
    }

pub returns : goal.returns
unfolding part_stored lent_after
returns c =
    record {
      value = c.answer_word-2.ensures;
      out_after = rw (eq-eqb _ _ c.if-answer-ne0.false) refl;
    }
