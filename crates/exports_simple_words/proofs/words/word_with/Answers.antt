use Rattle.exports_simple_words.proofs.words.word_with.Goals as goal

pub returns : goal.returns
returns c = rw (← c.kind_of-kind.ensures.value) c.answer_word.ensures
