use Rattle.exports_simple_words.proofs.words.put_answer.Goals as goal

pub returns : goal.returns
returns c =
    record {
      value = c.word_with.ensures;
      out_after = c.put_double.ensures;
    }
