use mathlib.Core.Path.{◌≡◌, ◌∙◌, ap}
use Rattle.paper_questions.specs.PartAnswers.{bytes_in}
use Rattle.paper_index.specs.ByIndex.{passage_by_index}
use Rattle.paper_index.proofs.Lies.{passage-index-lies}
use Rattle.index_handing.proofs.handing.passage_part_by_index.Goals as goal

pub part_of-requires : goal.part_of-requires
part_of-requires c = rw c.passage_by_index-part.ensures (passage-index-lies _ _ _ _ _)

pub returns : goal.returns
returns c =
    let d = c in
    let a = d.args in
    let e : d.passage_by_index-part.result ≡ passage_by_index a.entry.now a.index.now a.number a.keyword a.pointer =
    d.passage_by_index-part.ensures in
    record {
      behind = rw (← e) c.part_of.ensures.behind;
      result_value = c.part_of.ensures.result_value ∙ ap (bytes_in a.entry.now) e;
    }
