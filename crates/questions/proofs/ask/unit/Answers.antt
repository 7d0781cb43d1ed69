use mathlib.Core.Path.{◌≡◌, ◌∙◌}
use Rattle.paper_questions.specs.Ask.{unit_asked}
use Rattle.paper_index.specs.Asked.{part_found}
use Rattle.paper_index.specs.TableAnswers.{unit_from_row}
use Rattle.row_answers.proofs.RowAnswers.{unit-by-row}
use Rattle.questions.proofs.ByRow.{part-refused, part-answered}
use Rattle.questions.proofs.ask.unit.Goals as goal

pub returns-then-refusal-ne0 : goal.returns-then-refusal-ne0
returns-then-refusal-ne0 c =
    let d = c in
    let a = d.args in
    let l = d.locate-found.result in
    let from = unit_from_row a.entry.now l.row a.section a.column in
    let by : unit_asked a.entry.now a.number a.section a.column ≡ part_found l.verdict l.row from =
    rw d.locate-found.ensures.value (unit-by-row a.entry.now a.number a.section a.column) in
    let r = c.no_row-refusal in
    let e = part-refused l r.result r.ensures from by c.if-refusal-ne0.true in
    c.no_part.ensures ∙ rw c.answer_for-refused.ensures e

pub returns : goal.returns
returns c =
    let d = c in
    let a = d.args in
    let l = d.locate-found.result in
    let from = unit_from_row a.entry.now l.row a.section a.column in
    let by : unit_asked a.entry.now a.number a.section a.column ≡ part_found l.verdict l.row from =
    rw d.locate-found.ensures.value (unit-by-row a.entry.now a.number a.section a.column) in
    let r = c.no_row-refusal in
    c.unit_from_row.ensures ∙ part-answered l r.result r.ensures from by c.if-refusal-ne0.false
