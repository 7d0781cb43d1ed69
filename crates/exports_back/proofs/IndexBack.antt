-- No answer of a call about an index is lost: it comes back from the word and the lent array.
-- Assumes nothing.
use Prim.Native.Nat.{ℕ, ◌-◌, ◌*◌, ◌/◌, ◌%◌}
use mathlib.Core.Path.{◌≡◌, refl, ap}
use mathlib.Core.Bool.{Bool, true, false, cond, not, ◌&&◌}
use mathlib.Core.List.{List, [], ◌∷◌, ◌++◌}
use native.Mathlib.Omega.{arith}
use borrow.Author.Tests.{eqb-true, eqb-false}
use lib.Dec.{eqb, ltb}
use lib.ListN.{length}
use Rattle.laws.specs.Walk.{All}
use Rattle.paper_number.specs.Digits.{field_read}
use Rattle.paper_record.specs.Places.{place_of}
use Rattle.paper_record.specs.Word.{pointer_of}
use Rattle.paper_record.specs.Identifier.{BIB}
use Rattle.paper_record.specs.declared.types.RecordNo.{RecordNo}
use Rattle.paper_record.specs.declared.types.LineNo.{LineNo}
use Rattle.paper_entry.specs.Judging.{judge_of}
use Rattle.paper_entry.specs.Answer.{Refusal, refusal, first_of, is_refused, answer_of, answer_for}
use Rattle.paper_questions.specs.declared.types.Row.{Row}
use Rattle.paper_questions.specs.declared.types.PartAnswer.{PartAnswer}
use Rattle.paper_questions.specs.Place.{shape_of, heading_place, unit_place, field_of, first_byte, byte_of}
use Rattle.paper_questions.specs.Passage.{text_record}
use Rattle.paper_questions.specs.Refused.{section_in, no_line, no_column}
use Rattle.paper_questions.specs.PartAnswers.{no_part}
use Rattle.paper_questions.proofs.ValuePlaces.{value-field}
use Rattle.paper_index.specs.Making.{rows_in, making_refusal, made}
use Rattle.paper_index.specs.Reads.{read_refusals, table_identifier, good_value, good_heading, good_unit}
use Rattle.paper_index.specs.TableAnswers.{value_from_row, heading_from_row, unit_from_row}
use Rattle.paper_index.specs.PassageAnswers.{texts_counted, texts_held, begun_at, ended_at, passage_refusals, passage_from_row}
use Rattle.paper_index.specs.ByIndex.{row_in, rows_before, row_refusal, row_by_index, refused_value, part_by_index}
use Rattle.paper_index.specs.ByIndex.{value_by_index, heading_by_index, unit_by_index, passage_by_index}
use Rattle.exports_words.specs.Words.{lent_after}
use Rattle.exports_parts.specs.Questions.{number_stored, value_answer, value_stored}
use Rattle.exports_back.specs.IndexClaims.{MadeBack, RowBack, IndexValueBack, IndexHeadingBack, IndexUnitBack}
use Rattle.exports_back.specs.IndexClaims.{IndexPassageBack}
use Rattle.exports_back.proofs.Laws.{word_back, plain_fits, answer-fits}
use Rattle.exports_back.proofs.Refusals.{Numbered, one, first-numbered}
use Rattle.exports_back.proofs.ValuesBack.{value_of, field-wide, refused-value}
use Rattle.exports_back.proofs.ValuesBack.{Back as ValueBack}
use Rattle.exports_back.proofs.PartsBack.{part_of, none-back, Back}

-- ---- the numbers that are given

numbered-making : (s : List ℕ) (numbers : ℕ) → Numbered (making_refusal s numbers)
numbered-making s numbers =
    first-numbered (refusal 31 (is_refused (judge_of s)) ∷ refusal 38 (ltb numbers (5 * rows_in s)) ∷ [])
    (one 31 (omega arith) (omega arith), (one 38 (omega arith) (omega arith), tt))

pub numbered-row : (t : List ℕ) (n : ℕ) → Numbered (row_refusal t n)
numbered-row t n =
    first-numbered
    (refusal 38 (not (eqb (length t % 5) 0)) ∷ refusal 32 (eqb (rows_before t n) (length t / 5)) ∷ [])
    (one 38 (omega arith) (omega arith), (one 32 (omega arith) (omega arith), tt))

module _ (s : List ℕ) (x : Row) (at : RecordNo) (identifier : ℕ) (ys : List Refusal) where
  pub numbered-reads : All (λ y. Numbered y.number) ys → Numbered (first_of (read_refusals s x at identifier ++ ys))
  numbered-reads h =
      first-numbered (read_refusals s x at identifier ++ ys) (
        one 32 (omega arith) (omega arith),
        (
          one 39 (omega arith) (omega arith),
          (one 33 (omega arith) (omega arith), (one 39 (omega arith) (omega arith), h)),
        ),
      )

-- ---- making, and finding a row

stored-number : (before : List ℕ) (number n : ℕ) → number ≡ 0 → number_stored before (answer_of number) n ≡ n ∷ []
unfolding number_stored lent_after
stored-number before number n e = rw e

pub made-back : MadeBack
unfolding made number_stored lent_after
made-back s before numbers =
    let a = answer_for (judge_of s) (making_refusal s numbers) in
    (word_back a (answer-fits s (making_refusal s numbers) (numbered-making s numbers).few), λ e. rw e)

pub row_back : RowBack
unfolding row_by_index number_stored lent_after
row_back t before n =
    (word_back (answer_of (row_refusal t n)) (plain_fits (row_refusal t n) (numbered-row t n).few), λ e. rw e)

-- ---- values

module _ (s before : List ℕ) where
  row-value : (x : Row) (section : ℕ) (line : LineNo) (column : ℕ) → ValueBack before (value_from_row s x section line column)
  unfolding value_from_row
  row-value x section line column =
      let at = section_in x section in
      let shape = shape_of s section at in
      let place = place_of at shape.columns line column in
      let last =
      refusal 34 (no_line shape line) ∷ refusal 35 (no_column shape column)
      ∷ refusal 39 (not (good_value s section place (field_read (field_of s place)).reading)) ∷ [] in
      let number = first_of (read_refusals s x at (table_identifier section) ++ last) in
      let h =
      numbered-reads s x at (table_identifier section) last (
        one 34 (omega arith) (omega arith),
        (one 35 (omega arith) (omega arith), (one 39 (omega arith) (omega arith), tt)),
      ) in
      value_of before (answer_of number) number (field_of s place) refl (λ z. ap answer_of z) (plain_fits number h.few) h
      (field-wide s place (value-field at shape.columns line column))

  -- refused before a row is read
  no_value : (number : ℕ) → Numbered number → eqb number 0 ≡ false → ValueBack before (refused_value number)
  unfolding value_answer value_stored lent_after
  no_value number h e =
      rw e
      (refused-value before (answer_of number) (plain_fits number h.few) (h.far (eqb-false number 0 e)))

pub index-value-back : IndexValueBack
unfolding value_by_index
index-value-back s t before n section line column = by_row (eqb (row_refusal t n) 0) refl
  where
    by_row : (b : Bool) → eqb (row_refusal t n) 0 ≡ b
        → ValueBack before
        (cond b (value_from_row s (row_in t (rows_before t n)) section line column) (refused_value (row_refusal t n)))
    by_row true e = row-value s before (row_in t (rows_before t n)) section line column
    by_row false e = no_value s before (row_refusal t n) (numbered-row t n) e

-- ---- parts

index-part : (s t before : List ℕ) (n : ℕ) (p : PartAnswer) → Back before p → Back before (part_by_index t n p)
index-part s t before n p h = by_row (eqb (row_refusal t n) 0) refl
  where
    by_row : (b : Bool) → eqb (row_refusal t n) 0 ≡ b → Back before (cond b p (no_part (answer_of (row_refusal t n))))
    by_row true e = h
    by_row false e = none-back before (answer_of (row_refusal t n)) (plain_fits (row_refusal t n) (numbered-row t n).few) e

module _ (s before : List ℕ) (x : Row) where
  row-heading : (section column : ℕ) → Back before (heading_from_row s x section column)
  unfolding heading_from_row
  row-heading section column =
      let at = section_in x section in
      let place = heading_place at column in
      let last =
      refusal 35 (no_column (shape_of s section at) column) ∷ refusal 39 (not (good_heading s place)) ∷ [] in
      let number = first_of (read_refusals s x at (table_identifier section) ++ last) in
      let h =
      numbered-reads s x at (table_identifier section) last
      (one 35 (omega arith) (omega arith), (one 39 (omega arith) (omega arith), tt)) in
      part_of s before (answer_of number) number (byte_of place) 10 (pointer_of (field_of s place)) refl
      (plain_fits number h.few)

  row-unit : (section column : ℕ) → Back before (unit_from_row s x section column)
  unfolding unit_from_row
  row-unit section column =
      let at = section_in x section in
      let shape = shape_of s section at in
      let heading = heading_place at column in
      let unit = unit_place at shape.columns column in
      let last =
      refusal 35 (no_column shape column) ∷ refusal 39 (not (good_heading s heading && good_unit s unit)) ∷ [] in
      let number = first_of (read_refusals s x at (table_identifier section) ++ last) in
      let h =
      numbered-reads s x at (table_identifier section) last
      (one 35 (omega arith) (omega arith), (one 39 (omega arith) (omega arith), tt)) in
      part_of s before (answer_of number) number (byte_of unit) 10 (pointer_of (field_of s heading)) refl
      (plain_fits number h.few)

  row-passage : (keyword : List ℕ) (pointer : ℕ) → Back before (passage_from_row s x keyword pointer)
  unfolding passage_from_row
  row-passage keyword pointer =
      let bib = x.bib in
      let from = begun_at s bib keyword pointer (texts_held s bib) in
      let past = ended_at s bib from (texts_held s bib) in
      let last = passage_refusals s bib from past in
      let number = first_of (read_refusals s x bib BIB ++ last) in
      let h =
      numbered-reads s x bib BIB last (one 39 (omega arith) (omega arith), (one 36 (omega arith) (omega arith), tt)) in
      part_of s before (answer_of number) number (first_byte (text_record bib from)) ((past - from) * 81) pointer refl
      (plain_fits number h.few)

pub index-heading-back : IndexHeadingBack
unfolding heading_by_index
index-heading-back s t before n section column =
    index-part s t before n (heading_from_row s (row_in t (rows_before t n)) section column)
    (row-heading s before (row_in t (rows_before t n)) section column)

pub index-unit-back : IndexUnitBack
unfolding unit_by_index
index-unit-back s t before n section column =
    index-part s t before n (unit_from_row s (row_in t (rows_before t n)) section column)
    (row-unit s before (row_in t (rows_before t n)) section column)

pub index-passage-back : IndexPassageBack
unfolding passage_by_index
index-passage-back s t before n keyword pointer =
    index-part s t before n (passage_from_row s (row_in t (rows_before t n)) keyword pointer)
    (row-passage s before (row_in t (rows_before t n)) keyword pointer)
