use mathlib.Core.Path.{refl}
use Rattle.exports_values.specs.Values.{reading_answer}
use Rattle.exports_simple_words.proofs.words.refusal_of.Goals as goal

pub returns-in-Blank : goal.returns-in-Blank
unfolding reading_answer
returns-in-Blank c = rw c.in-Blank.is refl

pub returns-in-Number : goal.returns-in-Number
unfolding reading_answer
returns-in-Number c = rw c.in-Number.is refl

pub returns-in-Refused : goal.returns-in-Refused
unfolding reading_answer
returns-in-Refused c = rw c.in-Refused.is refl
