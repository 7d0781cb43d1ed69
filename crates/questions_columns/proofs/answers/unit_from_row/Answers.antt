use Rattle.paper_index.proofs.PartsRead.{unit-by-before, unit-by-field}
use mathlib.Core.Bool.{◌&&◌, false, true}
use mathlib.Core.Path.{◌≡◌, ◌∙◌}
use Rattle.questions_columns.proofs.answers.unit_from_row.Goals.{then-heading, else-heading}
use Rattle.questions_columns.proofs.answers.unit_from_row.Goals as goal

pub returns-then-number-ne0 : goal.returns-then-number-ne0
returns-then-number-ne0 c = let a = c.args in
    let read = c.column_read-read in
    c.refused_part.ensures
    ∙ unit-by-before a.entry.now a.row a.section a.column c.section_in-at.result c.section_in-at.ensures read.result.number read.ensures.number_value c.if-number-ne0.true

pub heading_place-above-requires : goal.heading_place-above-requires
heading_place-above-requires c = c.column_read-read.ensures.in_section c.if-number-ne0.false

pub unit_place-place-requires : goal.unit_place-place-requires
unit_place-place-requires c =
    record {
      in_section = c.column_read-read.ensures.in_section c.if-number-ne0.false;
      columns_bound = c.column_read-read.ensures.columns_bound;
    }

pub returns-then-not-named : goal.returns-then-not-named
returns-then-not-named c = let a = c.args in
    let at = c.section_in-at in
    let read = c.column_read-read in
    let heading = c.heading_at-heading in
    let unit = c.unit_at-unit in
    let place = c.unit_place-place in
    let both : c.if-heading.named ≡ (heading.result.good && unit.result) = elim c.if-heading.branch [
      | then-heading w ↦ let good : heading.result.good ≡ true = w.if-heading.true in rw good w.named-is
      | else-heading w ↦ let good : heading.result.good ≡ false = w.if-heading.false in rw good (w.named-is ∙ good)
    ] in
    c.refused_part-then-not-named.ensures
    ∙ rw c.if-not-named.true at
    (unit-by-field a.entry.now a.row a.section a.column at.result at.ensures read.result.number read.ensures.number_value c.if-number-ne0.false c.heading_place-above.result c.heading_place-above.ensures.value heading.result.good heading.ensures.good_value place.result (rw (read.ensures.columns_value c.if-number-ne0.false) at place.ensures.value) unit.result c.if-heading.named unit.ensures both)

pub returns : goal.returns
returns c = let a = c.args in
    let at = c.section_in-at in
    let read = c.column_read-read in
    let heading = c.heading_at-heading in
    let unit = c.unit_at-unit in
    let place = c.unit_place-place in
    let both : c.if-heading.named ≡ (heading.result.good && unit.result) = elim c.if-heading.branch [
      | then-heading w ↦ let good : heading.result.good ≡ true = w.if-heading.true in rw good w.named-is
      | else-heading w ↦ let good : heading.result.good ≡ false = w.if-heading.false in rw good (w.named-is ∙ good)
    ] in
    rw (c.byte_of-first.ensures, heading.ensures.pointer_value) at c.part_from.ensures
    ∙ rw c.if-not-named.false at
    (unit-by-field a.entry.now a.row a.section a.column at.result at.ensures read.result.number read.ensures.number_value c.if-number-ne0.false c.heading_place-above.result c.heading_place-above.ensures.value heading.result.good heading.ensures.good_value place.result (rw (read.ensures.columns_value c.if-number-ne0.false) at place.ensures.value) unit.result c.if-heading.named unit.ensures both)
