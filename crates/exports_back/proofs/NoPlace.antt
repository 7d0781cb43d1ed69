-- A keyword that is not ten bytes is none: no passage stands under it, and the question is refused by 36 at the latest.
-- Assumes nothing.
use Prim.Native.Nat.{ℕ, ◌+◌, ◌-◌, ◌*◌}
use mathlib.Core.Path.{◌≡◌, refl, sym, ◌∙◌, ap}
use mathlib.Core.Bool.{Bool, true, false, cond, not, ◌&&◌}
use mathlib.Core.List.{List, [], ◌∷◌, ◌++◌}
use native.Mathlib.Omega.{arith}
use borrow.Author.Tests.{ne_eqb, le-ltb, eqb-true, eqb-false}
use lib.Dec.{eqb}
use lib.ListN.{length, get_or-replicate}
use Rattle.laws.specs.Search.{first}
use Rattle.laws.proofs.Search.{first-same, pass-first}
use Rattle.paper_number.specs.Grammar.{blanks}
use Rattle.paper_record.specs.declared.types.RecordNo.{RecordNo}
use Rattle.paper_record.specs.Word.{filled_at, differ_at, blank_to, equal_to}
use Rattle.paper_entry.specs.Judging.{judge_of}
use Rattle.paper_entry.specs.Answer.{refusal, first_of}
use Rattle.paper_questions.specs.declared.types.Passage.{Passage}
use Rattle.paper_questions.specs.Place.{first_byte}
use Rattle.paper_questions.specs.Passage.{passage_of, text_at, is_keyword, text_records, NO-PASSAGE}
use Rattle.paper_questions.specs.Located.{row_of}
use Rattle.paper_questions.specs.Refused.{passage_refusal, section_refusals, no_passage}
use Rattle.paper_questions.specs.PartAnswers.{passage_by}
use Rattle.paper_questions.specs.Ask.{passage_asked}
use Rattle.paper_questions.proofs.Parts.{part-number}
use Rattle.exports_parts.specs.Questions.{keyword_place}
use Rattle.paper_questions.specs.declared.types.Row.{Row}
use Rattle.paper_questions.specs.declared.types.PartAnswer.{PartAnswer}
use Rattle.paper_questions.specs.PartAnswers.{no_part}
use Rattle.paper_entry.specs.Answer.{answer_of}
use Rattle.paper_index.specs.PassageAnswers.{passage_from_row}
use Rattle.paper_index.specs.ByIndex.{row_in, rows_before, row_refusal, passage_by_index}
use Rattle.row_passages.specs.Plain.{Run, reads_refusal}
use Rattle.row_passages.proofs.PlainAnswers.{run-answered, read_first}
use Rattle.laws.proofs.Booleans.{differ, and_both}
use Rattle.exports_back.specs.NoPlace.{NoPlace, NoPlaceByIndex}

-- blanks are no keyword
never : (f : List ℕ) → is_keyword (blanks 10) f ≡ false
unfolding blank_to equal_to
never f =
    let same : first (differ_at f (blanks 10)) 0 10 ≡ first (filled_at f) 0 10 =
    first-same (differ_at f (blanks 10)) (filled_at f) 0 10
    (λ k l m. rw (get_or-replicate {A = ℕ} 10 k 32 0 (omega arith))) in
    rw same (by-test (eqb (first (filled_at f) 0 10) 10))
  where
    by-test : (b : Bool) → (not b && b) ≡ false
    by-test true = refl
    by-test false = refl

none-there : (s : List ℕ) (bib : RecordNo) (pointer : ℕ) → passage_of s bib (blanks 10) pointer ≡ NO-PASSAGE
unfolding passage_of
none-there s bib pointer =
    let n = text_records s bib in
    let k = first (λ m. is_keyword (blanks 10) (text_at s bib m)) 0 (n - 0) in
    let e : k ≡ 0 + (n - 0) =
    pass-first (λ m. is_keyword (blanks 10) (text_at s bib m)) 0 (n - 0) (λ m l h. never (text_at s bib m)) in
    rw (le-ltb k n (omega arith))

-- the number of a question whose passage is p
abbrev number_by : List ℕ → ℕ → Passage → ℕ
number_by s n p =
    first_of (section_refusals s (judge_of s) (row_of s n) (row_of s n).bib ++ (refusal 36 (no_passage p) ∷ []))

-- THE THEOREM
pub no_place : NoPlace
unfolding passage_asked passage_by passage_refusal keyword_place
no_place s n keyword pointer wrong =
    let x = row_of s n in
    let k : keyword_place keyword ≡ blanks 10 = rw (ne_eqb (length keyword) 10 wrong) in
    let p = passage_of s x.bib (keyword_place keyword) pointer in
    let none : p ≡ NO-PASSAGE = rw k (none-there s x.bib pointer) in
    part-number s (judge_of s) (number_by s n p) (first_byte p.first) (p.records * 81) pointer
    ∙ ap (number_by s n) none

-- ---- by an index

module _ (s : List ℕ) (x : Row) (pointer : ℕ) where
  -- no text record stands under blanks
  no_run : (i past : ℕ) → Run s x.bib (blanks 10) pointer i past → ⊥
  no_run i past r =
      let u = r.begun.under in
      differ (sym (and_both u.own u.same) ∙ never (text_at s x.bib u.at))

  not-answered : (passage_from_row s x (blanks 10) pointer).answer.number ≡ 0 → ⊥
  not-answered e = by-reads (eqb (reads_refusal s x) 0) refl
    where
      by-reads : (b : Bool) → eqb (reads_refusal s x) 0 ≡ b → ⊥
      by-reads true q =
          let r = run-answered s x (blanks 10) pointer (eqb-true (reads_refusal s x) 0 q) e in
          no_run r.0 r.1.0 r.1.1
      by-reads false q =
          let h = eqb-false (reads_refusal s x) 0 q in
          h (sym (ap (λ (p : PartAnswer). p.answer.number) (read_first s x (blanks 10) pointer h)) ∙ e)

module _ (s t : List ℕ) (n pointer : ℕ) where
  abbrev row : Row
  row = row_in t (rows_before t n)

  by_row : (b : Bool) → eqb (row_refusal t n) 0 ≡ b
      → (cond b (passage_from_row s row (blanks 10) pointer) (no_part (answer_of (row_refusal t n)))).answer.number ≡ 0 → ⊥
  by_row true q e = not-answered s row pointer e
  by_row false q e = eqb-false (row_refusal t n) 0 q e

pub no-place-by-index : NoPlaceByIndex
unfolding passage_by_index keyword_place
no-place-by-index s t n keyword pointer wrong e =
    by_row s t n pointer (eqb (row_refusal t n) 0) refl (rw (ne_eqb (length keyword) 10 wrong) at e)
