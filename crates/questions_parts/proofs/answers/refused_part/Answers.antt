use Rattle.paper_questions.specs.PartAnswers.{no_part}
use mathlib.Core.Path.{◌∙◌, ap}
use Rattle.questions_parts.proofs.answers.refused_part.Goals as goal

pub returns : goal.returns
returns c = c.no_part.ensures ∙ ap no_part c.answer_of.ensures
