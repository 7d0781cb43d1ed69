use mathlib.Core.Path.{◌∙◌}
use Rattle.paper_index.proofs.RowsFound.{value-unfound, value_found}
use Rattle.index_asking.proofs.asking.value_by_index.Goals as goal

pub returns-then-refusal-ne0 : goal.returns-then-refusal-ne0
returns-then-refusal-ne0 c =
    let d = c in
    let a = d.args in
    c.refused_value.ensures
    ∙ rw d.find_row-found.ensures
    (value-unfound a.index.now a.number a.entry.now a.section a.line a.column
    (rw d.find_row-found.ensures at c.if-refusal-ne0.true))

pub returns : goal.returns
returns c =
    let d = c in
    let a = d.args in
    c.value_from_row.ensures
    ∙ rw d.find_row-found.ensures
    (value_found a.index.now a.number a.entry.now a.section a.line a.column
    (rw d.find_row-found.ensures at c.if-refusal-ne0.false))
