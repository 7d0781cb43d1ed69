-- No walk is lost, and nothing that one gives: they come back from the word and the lent arrays.
-- Assumes nothing.
use Prim.Native.Nat.{ℕ, zero, suc, ◌+◌}
use mathlib.Core.Path.{◌≡◌, refl, sym, ap, ◌∙◌}
use mathlib.Core.Bool.{Bool, true, false, cond}
use mathlib.Core.List.{List, []}
use native.Mathlib.Omega.{arith}
use borrow.Author.Tests.{eqb-true, eqb-false}
use lib.Dec.{eqb, ltb}
use Rattle.paper_number.specs.Digits.{field_read}
use Rattle.paper_record.specs.Places.{place_of}
use Rattle.paper_record.specs.declared.types.RecordNo.{RecordNo}
use Rattle.paper_entry.specs.Judging.{judge_of}
use Rattle.paper_entry.specs.Answer.{first_of, answer_for}
use Rattle.paper_entry.proofs.Answers.{answer-number}
use Rattle.paper_questions.specs.declared.types.Row.{Row}
use Rattle.paper_questions.specs.Located.{row_of}
use Rattle.paper_questions.specs.Place.{shape_of}
use Rattle.paper_questions.specs.Refused.{section_in, section_refusals}
use Rattle.paper_questions.proofs.ValuePlaces.{value-field}
use Rattle.paper_walk.specs.declared.types.Walk.{Walk}
use Rattle.paper_walk.specs.Walk.{done_walk, walk_from, start_by, start_of, stands, onward, field_next, step_of, placed_at, line_no, at_place}
use Rattle.paper_walk.specs.Walk.{after, given_at}
use Rattle.exports_words.specs.Words.{answer_word, answer_in, lent_after}
use Rattle.exports_places.specs.Walks.{walk_numbers, walk_stored, walk_in, place_numbers, given_answer, given_stored}
use Rattle.exports_back.specs.WalkClaims.{given_in, StartBack, GivenBack, OnwardBack}
use Rattle.exports_back.specs.WalkClaims.{numbers_after, NumbersAfter, CallsGive, CallsFromStart}
use Rattle.exports_back.proofs.Laws.{word_back, answer-fits, plain_fits}
use Rattle.exports_back.proofs.Refusals.{Numbered, section-numbered}
use Rattle.exports_back.proofs.ValuesBack.{field-wide, field_back}

-- ---- a walk that is made

pub start_back : StartBack
unfolding start_of start_by walk_stored lent_after
start_back s before n section = by_number (eqb number 0) refl
  where
    x : Row
    x = row_of s n

    at : RecordNo
    at = section_in (row_of s n) section

    number : ℕ
    number = first_of (section_refusals s (judge_of s) (row_of s n) (section_in (row_of s n) section))

    by_number : (b : Bool) → eqb number 0 ≡ b
        → let w = cond b (walk_from at (shape_of s section at)) (done_walk (answer_for (judge_of s) number)) in
        (answer_in (answer_word w.answer) ≡ w.answer) × (w.answer.number ≡ 0 → walk_in (walk_stored before w) ≡ w)
    by_number true e = (word_back _ (plain_fits 0 (omega arith)), λ z. refl)
    by_number false e = (
      word_back _ (answer-fits s number (section-numbered s x at [] tt).few),
      λ z. absurd (eqb-false number 0 e (sym (answer-number (judge_of s) number) ∙ z)),
    )

-- ---- what is given

module _ (s t before : List ℕ) where
  abbrev w : Walk
  w = walk_in t

  given-at : given_in (answer_word (given_answer (at_place w.line w.column (field_read (field_next s w)))))
      (place_numbers (at_place w.line w.column (field_read (field_next s w))))
      (given_stored before (at_place w.line w.column (field_read (field_next s w))))
      ≡ at_place w.line w.column (field_read (field_next s w))
  given-at =
      ap (at_place w.line w.column)
      (field_back before (field_next s w)
      (field-wide s (place_of w.section w.columns w.line w.column)
      (value-field w.section w.columns w.line w.column)))

pub given_back : GivenBack
unfolding step_of
given_back s t before = by-test (stands (walk_in t)) refl
  where
    by-test : (b : Bool) → stands (walk_in t) ≡ b
        → let g = (step_of s (walk_in t)).given in
        given_in (answer_word (given_answer g)) (place_numbers g) (given_stored before g) ≡ g
    by-test true e = rw e (given-at s t before)
    by-test false e = rw e refl

pub onward-back : OnwardBack
unfolding step_of onward
onward-back s t = by_tests (stands (walk_in t)) refl (ltb (walk_in t).column (walk_in t).columns) refl
  where
    by_tests : (a : Bool) → stands (walk_in t) ≡ a → (b : Bool) → ltb (walk_in t).column (walk_in t).columns ≡ b
        → walk_in (walk_numbers (step_of s (walk_in t)).walk) ≡ (step_of s (walk_in t)).walk
    by_tests true p true q = rw (p, q) refl
    by_tests true p false q = rw (p, q) refl
    by_tests false p b q = rw p refl

-- ---- one call after another

pub numbers_after_lem : NumbersAfter
unfolding numbers_after after
numbers_after_lem s t zero = refl
numbers_after_lem s t (suc i) =
    onward-back s (numbers_after s t i) ∙ ap (λ (w : Walk). (step_of s w).walk) (numbers_after_lem s t i)

pub calls-give : CallsGive
calls-give s t before i =
    given_back s (numbers_after s t i) before ∙ ap (λ (w : Walk). (step_of s w).given) (numbers_after_lem s t i)

pub calls-from-start : CallsFromStart
calls-from-start s before n section i z =
    let w = start_of s n section in
    numbers_after_lem s (walk_stored before w) i
    ∙ ap (λ (v : Walk). after s v i) ((start_back s before n section).1 z)
