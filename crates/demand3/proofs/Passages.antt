-- Every question about a passage has the same answer in the copy.
-- Assumes nothing.
use Prim.Native.Nat.{ℕ, ◌+◌, ◌*◌, ◌-◌, ◌/◌, ◌<◌, ◌≤◌}
use mathlib.Core.Path.{◌≡◌, refl}
use mathlib.Core.Bool.{Bool, true, false, cond}
use mathlib.Core.List.{List}
use native.Mathlib.Omega.{arith}
use lib.Dec.{ltb}
use lib.ListN.{replicate}
use borrow.Author.Tests.{eq-eqb, ltb-true}
use Rattle.laws.specs.Search.{first}
use Rattle.laws.proofs.Search.{first_to, first-same}
use Rattle.paper_record.proofs.BlankCount.{blank-count}
use Rattle.paper_record.specs.declared.types.RecordNo.{RecordNo}
use Rattle.paper_rules.specs.Counts.{count_n2}
use Rattle.paper_entry.specs.declared.types.Verdict.{Verdict}
use Rattle.paper_entry.specs.Judging.{Accepted}
use Rattle.paper_questions.specs.declared.types.Passage.{Passage}
use Rattle.paper_questions.specs.Located.{row_of}
use Rattle.paper_questions.specs.Place.{fields_at, first_byte}
use Rattle.paper_questions.specs.Passage.{text_records, text_record, text_at, has_keyword, is_keyword, begins, begins_with}
use Rattle.paper_questions.specs.Passage.{first_text, NO-PASSAGE, passage_under, passage_of}
use Rattle.paper_questions.specs.Refused.{passage_refusal}
use Rattle.paper_questions.specs.PartAnswers.{passage_by}
use Rattle.paper_questions.specs.Ask.{passage_asked}
use Rattle.inside.proofs.TextLaid.{row-texts}
use Rattle.paper_copy.specs.Copy.{copy_of}
use Rattle.paper_copy.proofs.Demand.{copy-accepted}
use Rattle.demand3.specs.Same.{SamePart, SamePassages}
use Rattle.demand3.proofs.CopiedRecords.{copied-identifiers}
use Rattle.demand3.proofs.CopiedRows.{copied-row, row_kept}
use Rattle.demand3.proofs.Parts.{NoValues, Words, fields-same, part_same}

-- without a BIB section there are no text records
no-count : count_n2 (replicate 6 (replicate 11 32)) ≡ 0
no-count = blank-count

none-there : (s : List ℕ) (bib : RecordNo) → bib.0 ≡ 0 → text_records s bib ≡ 0
unfolding text_records fields_at
none-there s bib e = rw (eq-eqb bib.0 0 e, no-count)

module _ (s : List ℕ) (accepted : Accepted s) (n : ℕ) where
  abbrev bib : RecordNo
  bib = (row_of s n).bib

  abbrev texts : ℕ
  texts = text_records s bib

  text-record : (m : ℕ) → m < texts → NoValues s (text_record bib m)
  text-record m h =
      let t = row-texts s accepted n (λ e. let z = none-there s bib e in omega arith) m h in
      let l = t.there in
      let z : bib.0 + (m + 1) - 1 ≡ bib.0 + m = omega arith in
      record { from = omega arith; to = omega arith; role = rw (z, t.role) refl }

  texts-same : text_records (copy_of s) bib ≡ texts
  unfolding text_records
  texts-same = rw (row_kept s accepted n).bib

  -- ---- the passage

  found-same : (test : List ℕ → Bool) (i e : ℕ) → e ≤ texts
      → first_text (copy_of s) bib test i e ≡ first_text s bib test i e
  found-same test i e h =
      first-same (λ m. test (text_at (copy_of s) bib m)) (λ m. test (text_at s bib m)) i (e - i)
      (λ m a b. rw (fields-same s accepted (text_record bib m) (text-record m (omega arith))))

  -- what is found from a text record on, of those up to e
  found-to : (test : List ℕ → Bool) (i e : ℕ) → i ≤ e → first_text s bib test i e ≤ e
  found-to test i e h =
      let l = first_to (λ m. test (text_at s bib m)) i (e - i) in
      omega arith

  under_same : (pointer k : ℕ) → k < texts
      → passage_under (copy_of s) bib pointer k texts ≡ passage_under s bib pointer k texts
  unfolding passage_under
  under_same pointer k h =
      let u = first_text s bib has_keyword (k + 1) texts in
      let p = first_text s bib (begins_with pointer) k u in
      let l : u ≤ texts = found-to has_keyword (k + 1) texts (omega arith) in
      rw (
        found-same has_keyword (k + 1) texts (omega arith),
        found-same (begins_with pointer) k u l,
        found-same begins (p + 1) texts (omega arith),
      )

  passage-same : (keyword : List ℕ) (pointer : ℕ)
      → passage_of (copy_of s) bib keyword pointer ≡ passage_of s bib keyword pointer
  unfolding passage_of
  passage-same keyword pointer =
      rw (texts-same, found-same (is_keyword keyword) 0 texts (omega arith)) (by-test (ltb k texts) refl)
    where
      k : ℕ
      k = first_text s bib (is_keyword keyword) 0 texts

      by-test : (b : Bool) → ltb k texts ≡ b
          → cond b (passage_under (copy_of s) bib pointer k texts) NO-PASSAGE
          ≡ cond b (passage_under s bib pointer k texts) NO-PASSAGE
      by-test true e = under_same pointer k (ltb-true k texts e)
      by-test false e = refl

  -- ---- its records

  abbrev TextOnly : Passage → Type 0
  TextOnly p = Words s (first_byte p.first) (p.records * 81)

  no_words : TextOnly NO-PASSAGE
  no_words i a b = absurd (omega arith)

  run-words : (p e : ℕ) → e ≤ texts → TextOnly (record { first = text_record bib p; records = e - p })
  run-words p e h i a b =
      let m = i / 81 - bib.0 in
      let z : bib.0 + (m + 1) - 1 ≡ i / 81 = omega arith in
      rw z at (text-record m (omega arith)).role

  under-words : (pointer k : ℕ) → k < texts → TextOnly (passage_under s bib pointer k texts)
  unfolding passage_under
  under-words pointer k h = by-test (ltb p u) refl
    where
      u : ℕ
      u = first_text s bib has_keyword (k + 1) texts

      p : ℕ
      p = first_text s bib (begins_with pointer) k u

      by-test : (b : Bool) → ltb p u ≡ b
          → TextOnly
          (cond b (record { first = text_record bib p; records = first_text s bib begins (p + 1) texts - p }) NO-PASSAGE)
      by-test true e =
          let l = found-to has_keyword (k + 1) texts (omega arith) in
          let m = ltb-true p u e in
          run-words p (first_text s bib begins (p + 1) texts) (found-to begins (p + 1) texts (omega arith))
      by-test false e = no_words

  passage-words : (keyword : List ℕ) (pointer : ℕ) → TextOnly (passage_of s bib keyword pointer)
  unfolding passage_of
  passage-words keyword pointer = by-test (ltb k texts) refl
    where
      k : ℕ
      k = first_text s bib (is_keyword keyword) 0 texts

      by-test : (b : Bool) → ltb k texts ≡ b → TextOnly (cond b (passage_under s bib pointer k texts) NO-PASSAGE)
      by-test true e = under-words pointer k (ltb-true k texts e)
      by-test false e = no_words

  -- ---- the answer

  refusal-same : (v : Verdict) (p : Passage)
      → passage_refusal (copy_of s) v (row_of s n) p ≡ passage_refusal s v (row_of s n) p
  unfolding passage_refusal
  refusal-same v p = rw (copied-identifiers s accepted (row_of s n).first)

  answer-same : (v : Verdict) (keyword : List ℕ) (pointer : ℕ)
      → SamePart (copy_of s) s (passage_by (copy_of s) v (row_of s n) keyword pointer)
      (passage_by s v (row_of s n) keyword pointer)
  unfolding passage_by
  answer-same v keyword pointer =
      let p = passage_of s bib keyword pointer in
      rw (passage-same keyword pointer, refusal-same v p)
      (part_same s accepted v (passage_refusal s v (row_of s n) p) (first_byte p.first) (p.records * 81)
      pointer pointer (λ e. refl) (λ e. passage-words keyword pointer))

-- "and words at the same places"
pub same_passages : SamePassages
unfolding passage_asked
same_passages s accepted n keyword pointer =
    rw (copy-accepted s accepted, copied-row s accepted n) (answer-same s accepted n _ keyword pointer)
