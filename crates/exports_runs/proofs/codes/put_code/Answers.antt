use Rattle.exports_runs.specs.Codes.{code_word, length_stored}
use Rattle.exports_runs.proofs.codes.put_code.Goals as goal

pub returns : goal.returns
unfolding code_word length_stored
returns c =
    record {
      value = c.put_number.ensures.value;
      long_after = c.put_number.ensures.out_after;
    }
