-- No value is lost, and no answer to a copy: they come back from the word and the lent array.
-- Assumes nothing.
use Prim.Native.Nat.{ℕ, ◌-◌, ◌*◌, ◌≤◌}
use mathlib.Core.Path.{◌≡◌, refl, ◌∙◌, ap}
use mathlib.Core.Bool.{Bool, true, false, cond}
use mathlib.Core.List.{List, [], ◌∷◌, ◌++◌}
use native.Mathlib.Omega.{arith}
use borrow.Author.Tests.{eqb-true, eqb-false, le-leb}
use lib.Dec.{eqb, leb, ltb}
use lib.ListN.{length, get_or, drop, replicate, get_or-replicate, length-drop}
use lib.Seq.{length-take-le}
use Rattle.laws.specs.Blocks.{block_at}
use Rattle.paper_number.specs.declared.types.Reading.{Reading}
use Rattle.paper_number.specs.declared.types.Reading.TheVariants.{Blank, Number, Refused}
use Rattle.paper_number.specs.Value.{Says, malformed}
use Rattle.paper_number.specs.Reading.{read_field}
use Rattle.paper_number.proofs.Laws.{says_exactly}
use Rattle.paper_number.specs.Digits.{digit_count, field_read}
use Rattle.paper_number.specs.declared.types.FieldRead.{FieldRead}
use Rattle.paper_record.specs.declared.types.Place.{Place}
use Rattle.paper_record.specs.Places.{place_of}
use Rattle.paper_record.specs.Fields.{field_at, fields_of}
use Rattle.paper_record.proofs.ReadColumns.{field-of}
use Rattle.paper_entry.specs.Judging.{judge_of}
use Rattle.paper_entry.specs.Answer.{refusal, first_of, is_refused, answer_of, answer_for}
use Rattle.paper_entry.specs.declared.types.Answer.{Answer}
use Rattle.paper_questions.specs.declared.types.ValueAnswer.{ValueAnswer}
use Rattle.paper_questions.specs.Located.{row_of}
use Rattle.paper_questions.specs.Place.{has_record, fields_at, shape_of, field_of}
use Rattle.paper_questions.specs.Refused.{section_in, value_refusal, section_refusals, no_column, no_line}
use Rattle.paper_questions.specs.ValueAnswers.{value_with, value_by}
use Rattle.paper_questions.specs.Ask.{value_asked}
use Rattle.paper_questions.proofs.Records.{record-there}
use Rattle.paper_questions.proofs.ValuePlaces.{value-field}
use Rattle.paper_copy.specs.Call.{copied}
use Rattle.exports_words.specs.Words.{answer_word, answer_in, lent_after}
use Rattle.exports_values.specs.Values.{reading_answer, reading_stored, reading_in}
use Rattle.exports_back.specs.QuestionClaims.{ValueBack, CopiedBack}
use Rattle.exports_parts.specs.Questions.{value_answer, value_stored, value_answer_in}
use Rattle.exports_back.proofs.Laws.{Fits, word_back, answer-fits, held, held_back}
use Rattle.paper_entry.proofs.Answers.{answer-number}
use Rattle.exports_back.proofs.Refusals.{Numbered, one, first-numbered, section-numbered}

-- a field of an entry is that of a record, or blank
field-cases : (P : List ℕ → Type 0) (s : List ℕ) (p : Place) → p.field ≤ 5
    → (has_record s p.at ≡ true → P (field_at (block_at 81 s (p.at.0 - 1)) p.field))
    → P (replicate 11 32) → P (field_of s p)
unfolding fields_at
field-cases P s p f there blank = by_record (has_record s p.at) refl
  where
    by_record : (b : Bool) → has_record s p.at ≡ b
        → P (get_or (cond b (fields_of (block_at 81 s (p.at.0 - 1))) (replicate 6 (replicate 11 32))) p.field [])
    by_record true e = rw (field-of (block_at 81 s (p.at.0 - 1)) p.field (omega arith)) (there e)
    by_record false e = rw (get_or-replicate 6 p.field (replicate {A = ℕ} 11 32) [] (omega arith)) blank

-- a field of an entry is eleven columns
pub field-wide : (s : List ℕ) (p : Place) → p.field ≤ 5 → length (field_of s p) ≡ 11
field-wide s p f =
    let r = block_at 81 s (p.at.0 - 1) in
    field-cases (λ l. length l ≡ 11) s p f
    (λ e.
    let (a, b) = record-there s p.at e in
    let w : length r ≡ 81 = length-take-le 81 (drop ((p.at.0 - 1) * 81) s) (simp length-drop (omega arith)) in
    length-take-le 11 (drop (p.field * 11) r) (simp length-drop (omega arith)))
    refl

-- what a field of eleven columns says comes back, and its count
pub field_back : (before l : List ℕ) → length l ≡ 11
    → reading_in (answer_word (reading_answer (field_read l).reading)) (reading_stored before (field_read l)) ≡ field_read l
unfolding field_read
field_back before l w =
    held_back before (digit_count l) (read_field l) (held l w (read_field l) refl ((says_exactly l (read_field l)).0 refl))

-- what a field says refuses no question
says-low : (l : List ℕ) (r : Reading) → Says l r → leb 31 (answer_in (answer_word (reading_answer r))).number ≡ false
unfolding reading_answer answer_in answer_word
says-low l Blank h = refl
says-low l (Number v) h = refl
says-low l (Refused n) (malformed x y) = refl

said-back : (before l : List ℕ) → length l ≡ 11
    → value_answer_in (answer_word (reading_answer (field_read l).reading)) (reading_stored before (field_read l))
    ≡ record { answer = answer_of 0; value = (field_read l).reading; digits = (field_read l).digits }
unfolding value_answer_in field_read
said-back before l w =
    let h = (says_exactly l (read_field l)).0 refl in
    rw (
      says-low l (read_field l) h,
      held_back before (digit_count l) (read_field l) (held l w (read_field l) refl h),
    ) refl

pub refused-value : (xs : List ℕ) (a : Answer) → Fits a → 31 ≤ a.number
    → value_answer_in (answer_word a) xs ≡ record { answer = a; value = Blank; digits = 0 }
unfolding value_answer_in
refused-value xs a h far = rw (word_back a h, le-leb 31 a.number far) refl

-- a value comes back, whatever stood in the array before
abbrev pub Back : List ℕ → ValueAnswer → Type 0
Back before v = value_answer_in (answer_word (value_answer v)) (value_stored before v) ≡ v

-- a value beside a number: what the field says where it is 0, else blank
abbrev answered_by : Answer → ℕ → FieldRead → ValueAnswer
answered_by a number field =
    record {
      answer = a;
      value = cond (eqb number 0) field.reading Blank;
      digits = cond (eqb number 0) field.digits 0;
    }

pub value_of : (before : List ℕ) (a : Answer) (number : ℕ) (l : List ℕ) → a.number ≡ number
    → (number ≡ 0 → a ≡ answer_of 0) → Fits a → Numbered number → length l ≡ 11
    → Back before (answered_by a number (field_read l))
unfolding value_answer value_stored lent_after
value_of before a number l same zeros fits h w = by_number (eqb number 0) refl
  where
    by_number : (b : Bool) → eqb number 0 ≡ b → Back before (answered_by a number (field_read l))
    by_number true e =
        let n = eqb-true number 0 e in
        rw (zeros n, n) (said-back before l w)
    by_number false e =
        let far : 31 ≤ number = h.far (eqb-false number 0 e) in
        let f : eqb a.number 0 ≡ false = ap (λ (m : ℕ). eqb m 0) same ∙ e in
        rw (f, e) (refused-value before a fits (rw same far))

value-with : (s before : List ℕ) (number : ℕ) (l : List ℕ) → Numbered number → length l ≡ 11
    → Back before (value_with (judge_of s) number (field_read l))
value-with s before number l h w =
    value_of before (answer_for (judge_of s) number) number l (answer-number (judge_of s) number) (λ z. rw z refl)
    (answer-fits s number h.few) h w

pub value-back : ValueBack
unfolding value_asked value_by value_refusal
value-back s before n section line column =
    let x = row_of s n in
    let at = section_in x section in
    let shape = shape_of s section at in
    let last = refusal 34 (no_line shape line) ∷ refusal 35 (no_column shape column) ∷ [] in
    let place = place_of at shape.columns line column in
    value-with s before (first_of (section_refusals s (judge_of s) x at ++ last)) (field_of s place)
    (section-numbered s x at last
    (one 34 (omega arith) (omega arith), (one 35 (omega arith) (omega arith), tt)))
    (field-wide s place (value-field at shape.columns line column))

-- ---- a copy

pub copied-back : CopiedBack
unfolding copied
copied-back s room =
    let list = refusal 31 (is_refused (judge_of s)) ∷ refusal 37 (ltb room (length s)) ∷ [] in
    let numbered = first-numbered list (one 31 (omega arith) (omega arith), (one 37 (omega arith) (omega arith), tt)) in
    word_back (copied s room) (answer-fits s (first_of list) numbered.few)
