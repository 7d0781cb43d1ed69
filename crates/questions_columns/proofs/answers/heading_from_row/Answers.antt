use Rattle.paper_index.proofs.PartsRead.{heading-by-before, heading-by-field}
use borrow.Author.Tests.{not-false, not-true}
use mathlib.Core.Path.{◌∙◌}
use Rattle.questions_columns.proofs.answers.heading_from_row.Goals as goal

pub returns-then-number-ne0 : goal.returns-then-number-ne0
returns-then-number-ne0 c = let a = c.args in
    let read = c.column_read-read in
    c.refused_part.ensures
    ∙ heading-by-before a.entry.now a.row a.section a.column c.section_in-at.result c.section_in-at.ensures read.result.number read.ensures.number_value c.if-number-ne0.true

pub heading_place-place-requires : goal.heading_place-place-requires
heading_place-place-requires c = c.column_read-read.ensures.in_section c.if-number-ne0.false

pub returns-then-not-heading : goal.returns-then-not-heading
returns-then-not-heading c = let a = c.args in
    let read = c.column_read-read in
    let heading = c.heading_at-heading in
    c.refused_part-then-not-heading.ensures
    ∙ rw (not-true heading.result.good c.if-not-heading.true) at
    (heading-by-field a.entry.now a.row a.section a.column c.section_in-at.result c.section_in-at.ensures read.result.number read.ensures.number_value c.if-number-ne0.false c.heading_place-place.result c.heading_place-place.ensures.value heading.result.good heading.ensures.good_value)

pub returns : goal.returns
returns c = let a = c.args in
    let read = c.column_read-read in
    let heading = c.heading_at-heading in
    rw (c.byte_of-first.ensures, heading.ensures.pointer_value) at c.part_from.ensures
    ∙ rw (not-false heading.result.good c.if-not-heading.false) at
    (heading-by-field a.entry.now a.row a.section a.column c.section_in-at.result c.section_in-at.ensures read.result.number read.ensures.number_value c.if-number-ne0.false c.heading_place-place.result c.heading_place-place.ensures.value heading.result.good heading.ensures.good_value)
