use mathlib.Core.Path.{◌≡◌, ◌∙◌}
use Rattle.paper_walk.specs.Walk.{start_of, start_from_row}
use Rattle.paper_walk.specs.Claims.{start_found}
use Rattle.walk_laws.proofs.StartByRow.{start-by-row}
use Rattle.walk_start.proofs.WalkByRow.{none-by-row, made-by-row}
use Rattle.walk_start.proofs.start.start.Goals as goal

pub returns-then-refusal-ne0 : goal.returns-then-refusal-ne0
returns-then-refusal-ne0 c =
    let d = c in
    let a = d.args in
    let l = d.locate-found.result in
    let from = start_from_row a.entry.now l.row a.section in
    let by : start_of a.entry.now a.number a.section ≡ start_found l.verdict l.row from =
    rw d.locate-found.ensures.value (start-by-row a.entry.now a.number a.section) in
    let r = c.no_row-refusal in
    let e = none-by-row l r.result r.ensures from by c.if-refusal-ne0.true in
    c.done_walk.ensures ∙ rw c.answer_for-refused.ensures e

pub returns : goal.returns
returns c =
    let d = c in
    let a = d.args in
    let l = d.locate-found.result in
    let from = start_from_row a.entry.now l.row a.section in
    let by : start_of a.entry.now a.number a.section ≡ start_found l.verdict l.row from =
    rw d.locate-found.ensures.value (start-by-row a.entry.now a.number a.section) in
    let r = c.no_row-refusal in
    let said : c.start_from_row.result ≡ from = c.start_from_row.ensures in
    said ∙ made-by-row l r.result r.ensures from by c.if-refusal-ne0.false
