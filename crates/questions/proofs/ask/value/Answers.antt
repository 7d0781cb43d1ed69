use mathlib.Core.Path.{◌≡◌, ◌∙◌}
use Rattle.paper_questions.specs.ValueAnswers.{value_said}
use Rattle.paper_questions.specs.Ask.{value_asked}
use Rattle.paper_index.specs.Asked.{value_found}
use Rattle.paper_index.specs.TableAnswers.{value_from_row}
use Rattle.row_answers.proofs.RowAnswers.{value-by-row}
use Rattle.laws.proofs.Promise.{said-too}
use Rattle.questions.proofs.ByRow.{value-refused, value-answered}
use Rattle.questions.proofs.ask.value.Goals as goal

pub returns-then-refusal-ne0 : goal.returns-then-refusal-ne0
returns-then-refusal-ne0 c =
    let d = c in
    let a = d.args in
    let l = d.locate-found.result in
    let from = value_from_row a.entry.now l.row a.section a.line a.column in
    let by : value_asked a.entry.now a.number a.section a.line a.column
    ≡ value_found l.verdict l.row from =
    rw d.locate-found.ensures.value (value-by-row a.entry.now a.number a.section a.line a.column) in
    let e = value-refused l c.no_row-refusal.result c.no_row-refusal.ensures from by c.if-refusal-ne0.true in
    let both = said-too value_said (rw c.answer_for-refused.ensures e) in
    record { value = both.0; result_value = both.1 }

pub returns : goal.returns
returns c =
    let d = c in
    let a = d.args in
    let l = d.locate-found.result in
    let from = value_from_row a.entry.now l.row a.section a.line a.column in
    let by : value_asked a.entry.now a.number a.section a.line a.column
    ≡ value_found l.verdict l.row from =
    rw d.locate-found.ensures.value (value-by-row a.entry.now a.number a.section a.line a.column) in
    let e = value-answered l c.no_row-refusal.result c.no_row-refusal.ensures from by c.if-refusal-ne0.false in
    let both = said-too value_said (c.value_from_row.ensures ∙ e) in
    record { value = both.0; result_value = both.1 }
