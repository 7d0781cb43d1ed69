use Rattle.record_words.proofs.word.same_heading.Goals as goal

pub returns : goal.returns
returns c = c.equal_to.ensures
