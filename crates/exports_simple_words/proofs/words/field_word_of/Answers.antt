use mathlib.Core.Path.{◌∙◌, refl}
use Rattle.exports_simple_words.proofs.words.field_word_of.Goals as goal

pub returns : goal.returns
returns c =
    let said = c.answer_of-answer.ensures ∙ c.refusal_of-number.ensures in
    c.word_with.ensures ∙ rw (said, c.requires) refl
