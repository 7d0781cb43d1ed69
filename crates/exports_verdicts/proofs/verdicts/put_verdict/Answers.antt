use mathlib.Core.Path.{refl}
use borrow.Author.Tests.{eq-eqb, ne_eqb}
use Rattle.exports_words.specs.Words.{answer_word, lent_after}
use Rattle.exports_verdicts.specs.Verdicts.{verdict_answer, totals_numbers}
use Rattle.exports_verdicts.proofs.verdicts.put_verdict.Goals as goal

pub returns-then-refusal-ne0 : goal.returns-then-refusal-ne0
unfolding verdict_answer lent_after
returns-then-refusal-ne0 c =
    let e = ne_eqb _ _ c.if-refusal-ne0.true in
    record {
      value = rw e c.answer_word.ensures;
      out_after = rw e refl;
    }

pub returns : goal.returns
unfolding answer_word verdict_answer lent_after totals_numbers
returns c =
    let e = eq-eqb _ _ c.if-refusal-ne0.false in
    record {
      value = rw e refl;
      out_after = rw e refl;
    }
