use Rattle.paper_questions.proofs.Parts.{heading-lies}
use Rattle.paper_questions.specs.PartAnswers.{bytes_in}
use Rattle.paper_questions.specs.Ask.{heading_asked}
use mathlib.Core.Path.{◌∙◌, ap}
use Rattle.questions.proofs.ask.heading_part.Goals as goal

pub part_of-requires : goal.part_of-requires
unfolding heading_asked
part_of-requires c = rw c.heading-part.ensures (heading-lies _ _ _ _ _)

pub returns : goal.returns
returns c =
    record {
      behind = rw (← c.heading-part.ensures) c.part_of.ensures.behind;
      result_value = c.part_of.ensures.result_value ∙ ap (bytes_in c.args.entry.now) c.heading-part.ensures;
    }
