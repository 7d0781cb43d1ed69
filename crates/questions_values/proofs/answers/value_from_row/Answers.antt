use Rattle.paper_index.proofs.SectionsRead.{table-number, table-shape}
use Rattle.paper_index.proofs.ValuesRead.{refused-by-read, refused-by-line, refused-by-column, by_field}
use Rattle.paper_questions.proofs.ValuePlaces.{value-field, value_placed}
use Rattle.paper_record.proofs.Within.{within-bounds}
use mathlib.Core.Path.{◌∙◌, sym}
use Rattle.questions_values.proofs.answers.value_from_row.Goals as goal

pub returns-then-number-ne0 : goal.returns-then-number-ne0
returns-then-number-ne0 c = let e = table-number c.args.entry.now c.args.row c.args.section c.section_in-at.result c.table_identifier-identifier.result c.read_section-read.result c.section_in-at.ensures c.table_identifier-identifier.ensures c.read_section-read.ensures.value in rw c.refused_value.ensures (refused-by-read c.args.entry.now c.args.row c.args.section c.args.line c.args.column c.read_section-read.result.number e c.if-number-ne0.true)

pub returns-then-not-is_counted : goal.returns-then-not-is_counted
returns-then-not-is_counted c = let g = sym (table-number c.args.entry.now c.args.row c.args.section c.section_in-at.result c.table_identifier-identifier.result c.read_section-read.result c.section_in-at.ensures c.table_identifier-identifier.ensures c.read_section-read.ensures.value) ∙ c.if-number-ne0.false in
    let f = c.shape_from-shape.ensures.value ∙ table-shape c.args.entry.now c.args.row c.args.section c.section_in-at.result c.table_identifier-identifier.result c.read_section-read.result c.section_in-at.ensures c.table_identifier-identifier.ensures c.read_section-read.ensures.value c.if-number-ne0.false in
    rw c.refused_value-then-not-is_counted.ensures (refused-by-line c.args.entry.now c.args.row c.args.section c.args.line c.args.column g c.shape_from-shape.result f (sym c.is_counted.ensures ∙ c.if-not-is_counted.true))

pub returns-then-not-is_counted-2 : goal.returns-then-not-is_counted-2
returns-then-not-is_counted-2 c = let g = sym (table-number c.args.entry.now c.args.row c.args.section c.section_in-at.result c.table_identifier-identifier.result c.read_section-read.result c.section_in-at.ensures c.table_identifier-identifier.ensures c.read_section-read.ensures.value) ∙ c.if-number-ne0.false in
    let f = c.shape_from-shape.ensures.value ∙ table-shape c.args.entry.now c.args.row c.args.section c.section_in-at.result c.table_identifier-identifier.result c.read_section-read.result c.section_in-at.ensures c.table_identifier-identifier.ensures c.read_section-read.ensures.value c.if-number-ne0.false in
    rw c.refused_value-then-not-is_counted-2.ensures (refused-by-column c.args.entry.now c.args.row c.args.section c.args.line c.args.column g c.shape_from-shape.result f (sym c.is_counted.ensures ∙ c.if-not-is_counted.false) (sym c.is_counted-2.ensures ∙ c.if-not-is_counted-2.true))

pub place_of-place-requires : goal.place_of-place-requires
place_of-place-requires c = let l = within-bounds 1 c.shape_from-shape.result.lines c.args.line.0 (sym c.is_counted.ensures ∙ c.if-not-is_counted.false) in
    let k = within-bounds 1 c.shape_from-shape.result.columns c.args.column (sym c.is_counted-2.ensures ∙ c.if-not-is_counted-2.false) in
    value_placed c.section_in-at.result c.shape_from-shape.result c.args.line c.args.column (c.read_section-read.ensures.at_bound c.if-number-ne0.false) c.shape_from-shape.ensures.columns_bound c.shape_from-shape.ensures.lines_bound (record { line_from = l.0; line_to = l.1; column_from = k.0; column_to = k.1 })

pub value_at-requires : goal.value_at-requires
value_at-requires c = rw c.place_of-place.ensures (value-field c.section_in-at.result c.shape_from-shape.result.columns c.args.line c.args.column)

pub returns : goal.returns
returns c = let g = sym (table-number c.args.entry.now c.args.row c.args.section c.section_in-at.result c.table_identifier-identifier.result c.read_section-read.result c.section_in-at.ensures c.table_identifier-identifier.ensures c.read_section-read.ensures.value) ∙ c.if-number-ne0.false in
    let f = c.shape_from-shape.ensures.value ∙ table-shape c.args.entry.now c.args.row c.args.section c.section_in-at.result c.table_identifier-identifier.result c.read_section-read.result c.section_in-at.ensures c.table_identifier-identifier.ensures c.read_section-read.ensures.value c.if-number-ne0.false in
    rw (c.value_at.ensures, c.place_of-place.ensures, c.section_in-at.ensures) (by_field c.args.entry.now c.args.row c.args.section c.args.line c.args.column g c.shape_from-shape.result f (sym c.is_counted.ensures ∙ c.if-not-is_counted.false) (sym c.is_counted-2.ensures ∙ c.if-not-is_counted-2.false))
