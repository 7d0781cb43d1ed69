use Rattle.exports_words.specs.Words.{answer_word}
use borrow.Author.Rules.{rules}
use Rattle.exports_words.proofs.words.answer_word.Goals as goal

pub returns : goal.returns
unfolding answer_word
returns c = search rules
