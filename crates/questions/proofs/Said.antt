-- What is said of a value that is refused: blank, beside its number.
-- Assumes nothing.
use Prim.Native.Nat.{ℕ}
use mathlib.Core.Path.{◌≡◌, sym, ◌∙◌, ap}
use borrow.Author.Tests.{ne_eqb}
use Rattle.paper_number.specs.declared.types.FieldRead.{FieldRead}
use Rattle.paper_number.specs.Digits.{field_read}
use Rattle.paper_record.specs.Places.{place_of}
use Rattle.paper_entry.specs.declared.types.Verdict.{Verdict}
use Rattle.paper_entry.specs.Judging.{judge_of}
use Rattle.paper_entry.proofs.Answers.{answer-number}
use Rattle.paper_questions.specs.Place.{shape_of, field_of}
use Rattle.paper_questions.specs.Located.{row_of}
use Rattle.paper_questions.specs.Refused.{section_in, value_refusal}
use Rattle.paper_questions.specs.ValueAnswers.{value_with, value_by, value_said, blank_beside}
use Rattle.paper_questions.specs.Ask.{value_asked, RefusedSaid}

with-said : (v : Verdict) (number : ℕ) (field : FieldRead) → (number ≡ 0 → ⊥)
    → value_said (value_with v number field) ≡ blank_beside number
with-said v number field h = rw (ne_eqb number 0 h, answer-number v number, ne_eqb number 0 h)

pub refused-said : RefusedSaid
unfolding value_asked value_by
refused-said s n section line column h =
    let v = judge_of s in
    let at = section_in (row_of s n) section in
    let shape = shape_of s section at in
    let number = value_refusal s v (row_of s n) at shape line column in
    let field = field_read (field_of s (place_of at shape.columns line column)) in
    let e = answer-number v number in
    with-said v number field (λ z. h (e ∙ z)) ∙ ap blank_beside (sym e)
