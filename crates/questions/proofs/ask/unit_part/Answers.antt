use Rattle.paper_questions.proofs.Parts.{unit-lies}
use Rattle.paper_questions.specs.PartAnswers.{bytes_in}
use Rattle.paper_questions.specs.Ask.{unit_asked}
use mathlib.Core.Path.{◌∙◌, ap}
use Rattle.questions.proofs.ask.unit_part.Goals as goal

pub part_of-requires : goal.part_of-requires
unfolding unit_asked
part_of-requires c = rw c.unit-part.ensures (unit-lies _ _ _ _ _)

pub returns : goal.returns
returns c =
    record {
      behind = rw (← c.unit-part.ensures) c.part_of.ensures.behind;
      result_value = c.part_of.ensures.result_value ∙ ap (bytes_in c.args.entry.now) c.unit-part.ensures;
    }
