use Rattle.paper_index.proofs.PartsRead.{number_read, shape-read, column-by-read, column-by-shape}
use Rattle.paper_questions.specs.declared.types.Shape.{Shape}
use Rattle.paper_questions.specs.Place.{shape_of}
use Rattle.paper_record.proofs.Within.{within-bounds}
use mathlib.Core.Path.{◌∙◌, ◌≡◌, ap, sym}
use native.Mathlib.Omega.{arith}
use Rattle.questions_columns.proofs.answers.column_read.Goals as goal

pub returns-then-number-ne0 : goal.returns-then-number-ne0
returns-then-number-ne0 c = let a = c.args in
    let e = rw c.table_identifier-identifier.ensures at (number_read a.entry.now a.row a.at c.table_identifier-identifier.result c.read_section-read.result c.read_section-read.ensures.value) in
    record {
      number_value = column-by-read a.entry.now a.row a.at a.section a.column c.read_section-read.result.number e c.if-number-ne0.true;
      columns_value = (λ z. absurd (c.if-number-ne0.true z));
      in_section = (λ z. absurd (c.if-number-ne0.true z));
      columns_bound = omega arith;
    }

pub returns-then-not-is_counted : goal.returns-then-not-is_counted
returns-then-not-is_counted c = let a = c.args in
    let e = rw c.table_identifier-identifier.ensures at (number_read a.entry.now a.row a.at c.table_identifier-identifier.result c.read_section-read.result c.read_section-read.ensures.value) in
    let same : c.shape_from-shape.result ≡ shape_of a.entry.now a.section a.at = c.shape_from-shape.ensures.value ∙ shape-read a.entry.now a.row a.at c.table_identifier-identifier.result c.read_section-read.result c.read_section-read.ensures.value a.section c.if-number-ne0.false in
    let k = column-by-shape a.entry.now a.row a.at a.section a.column (sym e ∙ c.if-number-ne0.false) c.is_counted.result (rw (← same) c.is_counted.ensures) in
    record {
      number_value = rw c.if-not-is_counted.true at k;
      columns_value = (λ z. absurd (omega arith));
      in_section = (λ z. absurd (omega arith));
      columns_bound = omega arith;
    }

pub returns : goal.returns
returns c = let a = c.args in
    let e = rw c.table_identifier-identifier.ensures at (number_read a.entry.now a.row a.at c.table_identifier-identifier.result c.read_section-read.result c.read_section-read.ensures.value) in
    let same : c.shape_from-shape.result ≡ shape_of a.entry.now a.section a.at = c.shape_from-shape.ensures.value ∙ shape-read a.entry.now a.row a.at c.table_identifier-identifier.result c.read_section-read.result c.read_section-read.ensures.value a.section c.if-number-ne0.false in
    let k = column-by-shape a.entry.now a.row a.at a.section a.column (sym e ∙ c.if-number-ne0.false) c.is_counted.result (rw (← same) c.is_counted.ensures) in
    let b = within-bounds 1 c.shape_from-shape.result.columns a.column (sym c.is_counted.ensures ∙ c.if-not-is_counted.false) in
    record {
      number_value = rw c.if-not-is_counted.false at k;
      columns_value = (λ z. ap (λ (q : Shape). q.columns) same);
      in_section = (λ z. record { below = c.read_section-read.ensures.at_bound c.if-number-ne0.false; from = b.0; to = omega (arith, b.1, c.shape_from-shape.ensures.columns_bound) });
      columns_bound = c.shape_from-shape.ensures.columns_bound;
    }
