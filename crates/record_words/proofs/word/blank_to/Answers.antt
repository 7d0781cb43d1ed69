use Rattle.paper_record.specs.Word.{blank_to}
use Rattle.record_words.proofs.word.blank_to.Goals as goal

pub returns : goal.returns
unfolding blank_to
returns c = rw (← c.filled_from.ensures.value)
