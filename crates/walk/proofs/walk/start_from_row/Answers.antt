use mathlib.Core.Path.{sym, ◌∙◌}
use Rattle.paper_index.proofs.SectionsRead.{table-number, table-shape}
use Rattle.walk.proofs.Begun.{begun-refused, begun-made}
use Rattle.walk.proofs.walk.start_from_row.Goals as goal

pub returns-then-number-ne0 : goal.returns-then-number-ne0
returns-then-number-ne0 c =
    let d = c in
    let t = d.table_identifier-identifier in
    let i = d.section_in-at in
    let a = d.args in
    let e = table-number a.entry.now a.row a.section i.result t.result d.read_section-read.result i.ensures
    t.ensures d.read_section-read.ensures.value in
    c.done_walk.ensures
    ∙ rw c.answer_of-refused.ensures
    (begun-refused a.entry.now a.row a.section d.read_section-read.result.number e c.if-number-ne0.true)

pub returns : goal.returns
returns c =
    let d = c in
    let t = d.table_identifier-identifier in
    let i = d.section_in-at in
    let a = d.args in
    let z = c.if-number-ne0.false in
    let e = table-number a.entry.now a.row a.section i.result t.result d.read_section-read.result i.ensures
    t.ensures d.read_section-read.ensures.value in
    let f = table-shape a.entry.now a.row a.section i.result t.result d.read_section-read.result i.ensures
    t.ensures d.read_section-read.ensures.value z in
    c.walk_from.ensures
    ∙ begun-made a.entry.now a.row a.section i.result i.ensures (sym e ∙ z) c.shape_from-shape.result
    (c.shape_from-shape.ensures.value ∙ f)
