use mathlib.Core.Path.{refl, ap, ◌∙◌}
use Rattle.exports_words.specs.Words.{answer_word}
use Rattle.exports_values.specs.Values.{reading_answer, reading_stored}
use Rattle.exports_values.proofs.values.put_reading.Goals as goal

pub returns-in-Blank : goal.returns-in-Blank
unfolding reading_answer reading_stored answer_word
returns-in-Blank c =
    let e = c.in-Blank.is in
    record {
      value = rw e refl;
      out_after = rw e refl;
    }

pub returns-in-Number : goal.returns-in-Number
unfolding reading_answer reading_stored answer_word
returns-in-Number c =
    let e = c.in-Number.is in
    record {
      value = rw e refl;
      out_after = rw e c.value_numbers.ensures;
    }

pub returns-in-Refused : goal.returns-in-Refused
unfolding reading_answer reading_stored
returns-in-Refused c =
    let e = c.in-Refused.is in
    record {
      value = rw e (c.answer_word.ensures ∙ ap answer_word c.answer_of.ensures);
      out_after = rw e refl;
    }
