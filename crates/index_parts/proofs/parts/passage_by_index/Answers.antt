use mathlib.Core.Path.{◌∙◌}
use Rattle.paper_questions.specs.declared.types.Row.{Row}
use Rattle.paper_index.specs.PassageAnswers.{passage_from_row}
use Rattle.paper_index.specs.ByIndex.{passage_by_index}
use Rattle.paper_index.proofs.RowsFound.{part-unfound, part-found}
use Rattle.index_parts.proofs.parts.passage_by_index.Goals as goal

pub returns-then-refusal-ne0 : goal.returns-then-refusal-ne0
unfolding passage_by_index
returns-then-refusal-ne0 c =
    let d = c in
    let a = d.args in
    c.refused_part.ensures
    ∙ rw d.find_row-found.ensures
    (part-unfound a.index.now a.number (λ (x : Row). passage_from_row a.entry.now x a.keyword a.pointer)
    (rw d.find_row-found.ensures at c.if-refusal-ne0.true))

pub returns : goal.returns
unfolding passage_by_index
returns c =
    let d = c in
    let a = d.args in
    c.passage_from_row.ensures
    ∙ rw d.find_row-found.ensures
    (part-found a.index.now a.number (λ (x : Row). passage_from_row a.entry.now x a.keyword a.pointer)
    (rw d.find_row-found.ensures at c.if-refusal-ne0.false))
