-- No part is lost: it comes back from the word and the lent array, whatever the entry, the question and the array.
-- Assumes nothing.
use Prim.Native.Nat.{ℕ, ◌+◌, ◌*◌}
use mathlib.Core.Path.{◌≡◌, refl}
use mathlib.Core.Bool.{Bool, true, false, cond}
use mathlib.Core.List.{List, [], ◌∷◌, ◌++◌}
use native.Mathlib.Omega.{arith}
use lib.Dec.{eqb, leb}
use lib.ListN.{length}
use Rattle.paper_record.specs.Word.{pointer_of}
use Rattle.paper_entry.specs.Judging.{judge_of}
use Rattle.paper_entry.specs.Answer.{refusal, first_of, answer_of, answer_for}
use Rattle.paper_entry.specs.declared.types.Answer.{Answer}
use Rattle.paper_questions.specs.declared.types.PartAnswer.{PartAnswer}
use Rattle.paper_questions.specs.Located.{row_of}
use Rattle.paper_questions.specs.Place.{shape_of, heading_place, unit_place, field_of, first_byte, byte_of}
use Rattle.paper_questions.specs.Passage.{passage_of}
use Rattle.paper_questions.specs.Refused.{section_in, column_refusal, passage_refusal, section_refusals, no_column}
use Rattle.paper_questions.specs.Refused.{no_passage}
use Rattle.paper_questions.specs.PartAnswers.{heading_by, unit_by, passage_by, no_part, part_from, part_with}
use Rattle.paper_questions.specs.Ask.{heading_asked, unit_asked, passage_asked}
use Rattle.exports_words.specs.Words.{answer_word, answer_in, lent_after}
use Rattle.exports_back.specs.QuestionClaims.{HeadingBack, UnitBack, PassageBack}
use Rattle.exports_parts.specs.Questions.{part_stored, part_in}
use Rattle.exports_back.proofs.Laws.{Fits, word_back, answer-fits}
use Rattle.paper_entry.proofs.Answers.{answer-number}
use Rattle.exports_back.proofs.Refusals.{Numbered, one, section-numbered}

-- ---- parts

-- a part comes back, whatever stood in the array before
abbrev pub Back : List ℕ → PartAnswer → Type 0
Back before p = part_in (answer_word p.answer) (part_stored before p) ≡ p

place-back : (before : List ℕ) (first long pointer : ℕ)
    → Back before (record { answer = answer_of 0; first = first; length = long; pointer = pointer })
unfolding part_in part_stored lent_after answer_in answer_word
place-back before first long pointer = refl

pub none-back : (before : List ℕ) (a : Answer) → Fits a → eqb a.number 0 ≡ false → Back before (no_part a)
unfolding part_in
none-back before a h e = rw (word_back a h, e) refl

-- beside another number than 0 the part is empty, whatever stands beside that
pub part_of : (s before : List ℕ) (a : Answer) (number from bytes pointer : ℕ) → a.number ≡ number → Fits a
    → Back before (cond (eqb number 0) (part_from s (answer_of 0) from bytes pointer) (no_part a))
part_of s before a number from bytes pointer same fits = by_number (eqb number 0) refl
  where
    by-room : (b : Bool)
        → Back before
        (cond b (record { answer = answer_of 0; first = from; length = bytes; pointer = pointer }) (no_part (answer_of 0)))
    by-room true = place-back before from bytes pointer
    by-room false = place-back before 0 0 32

    by_number : (b : Bool) → eqb number 0 ≡ b
        → Back before (cond b (part_from s (answer_of 0) from bytes pointer) (no_part a))
    by_number true e = by-room (leb (from + bytes) (length s))
    by_number false e = none-back before a fits (rw same e)

part-back : (s before : List ℕ) (number from bytes pointer : ℕ) → Numbered number
    → Back before (part_with s (judge_of s) number from bytes pointer)
part-back s before number from bytes pointer few =
    part_of s before (answer_for (judge_of s) number) number from bytes pointer (answer-number (judge_of s) number)
    (answer-fits s number few.few)

-- ---- the parts of an entry

pub heading-back : HeadingBack
unfolding heading_asked heading_by column_refusal
heading-back s before n section column =
    let x = row_of s n in
    let at = section_in x section in
    let place = heading_place at column in
    let last = refusal 35 (no_column (shape_of s section at) column) ∷ [] in
    part-back s before (first_of (section_refusals s (judge_of s) x at ++ last)) (byte_of place) 10
    (pointer_of (field_of s place)) (section-numbered s x at last (one 35 (omega arith) (omega arith), tt))

pub unit-back : UnitBack
unfolding unit_asked unit_by column_refusal
unit-back s before n section column =
    let x = row_of s n in
    let at = section_in x section in
    let shape = shape_of s section at in
    let last = refusal 35 (no_column shape column) ∷ [] in
    part-back s before (first_of (section_refusals s (judge_of s) x at ++ last))
    (byte_of (unit_place at shape.columns column)) 10 (pointer_of (field_of s (heading_place at column)))
    (section-numbered s x at last (one 35 (omega arith) (omega arith), tt))

pub passage-back : PassageBack
unfolding passage_asked passage_by passage_refusal
passage-back s before n keyword pointer =
    let x = row_of s n in
    let p = passage_of s x.bib keyword pointer in
    let last = refusal 36 (no_passage p) ∷ [] in
    part-back s before (first_of (section_refusals s (judge_of s) x x.bib ++ last)) (first_byte p.first)
    (p.records * 81) pointer (section-numbered s x x.bib last (one 36 (omega arith) (omega arith), tt))
