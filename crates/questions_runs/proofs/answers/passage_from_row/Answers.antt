use Rattle.paper_index.proofs.PartsRead.{passage-by-read, passage-by-texts}
use borrow.Author.Tests.{eq-eqb, ne_eqb}
use mathlib.Core.Path.{◌∙◌}
use native.Mathlib.Omega.{arith}
use Rattle.questions_runs.proofs.answers.passage_from_row.Goals as goal

pub returns-then-number-ne0 : goal.returns-then-number-ne0
returns-then-number-ne0 c = let a = c.args in
    let read = c.read_section-read in
    c.refused_part.ensures
    ∙ passage-by-read a.entry.now a.row a.keyword a.pointer read.result read.ensures.value c.if-number-ne0.true

pub begun_at-from-requires : goal.begun_at-from-requires
begun_at-from-requires c = record { below = c.read_section-read.ensures.at_bound c.if-number-ne0.false; ordered = omega arith; few = c.texts_held-held.ensures.upper_bound }

pub ended_at-past-requires : goal.ended_at-past-requires
ended_at-past-requires c = record { below = c.read_section-read.ensures.at_bound c.if-number-ne0.false; ordered = c.begun_at-from.ensures.upper_bound; few = c.texts_held-held.ensures.upper_bound }

pub returns-then-refusal-ne0 : goal.returns-then-refusal-ne0
returns-then-refusal-ne0 c = let a = c.args in
    let read = c.read_section-read in
    let refused = c.passage_refusal-refusal in
    c.refused_part-then-refusal-ne0.ensures
    ∙ rw (ne_eqb _ _ c.if-refusal-ne0.true) at
    (passage-by-texts a.entry.now a.row a.keyword a.pointer read.result read.ensures.value c.if-number-ne0.false refused.result c.texts_held-held.result c.begun_at-from.result c.ended_at-past.result c.texts_held-held.ensures.value c.begun_at-from.ensures.value c.ended_at-past.ensures.value refused.ensures)

pub overflow_add-number_there-2 : goal.overflow_add-number_there-2
overflow_add-number_there-2 c = let b = c.read_section-read.ensures.at_bound c.if-number-ne0.false in omega arith

pub returns : goal.returns
returns c = let a = c.args in
    let read = c.read_section-read in
    let refused = c.passage_refusal-refusal in
    rw c.first_byte-first.ensures.value at c.part_from.ensures
    ∙ rw (eq-eqb _ _ c.if-refusal-ne0.false) at
    (passage-by-texts a.entry.now a.row a.keyword a.pointer read.result read.ensures.value c.if-number-ne0.false refused.result c.texts_held-held.result c.begun_at-from.result c.ended_at-past.result c.texts_held-held.ensures.value c.begun_at-from.ensures.value c.ended_at-past.ensures.value refused.ensures)
