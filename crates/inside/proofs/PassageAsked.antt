-- A passage that is answered is inside: the searches for its keyword and its pointer have ended at records of the
-- section.
-- Assumes nothing.
use Prim.Native.Nat.{ℕ, ◌+◌, ◌-◌, ◌<◌, ◌≤◌}
use mathlib.Core.Path.{◌≡◌, refl, sym, ◌∙◌, ap}
use mathlib.Core.Bool.{Bool, true, false, cond}
use mathlib.Core.List.{List, [], ◌∷◌}
use native.Mathlib.Omega.{arith}
use lib.Dec.{ltb}
use lib.ListN.{get_or}
use borrow.Author.Tests.{eqb-false, ltb-true}
use Rattle.laws.proofs.Booleans.{and_left, and_right}
use Rattle.laws.proofs.Search.{first-from, first_to}
use Rattle.laws.proofs.Counting.{first-before, first_holds}
use Rattle.paper_record.specs.declared.types.RecordNo.{RecordNo}
use Rattle.paper_record.specs.Word.{equal_to}
use Rattle.paper_rules.specs.Text.{place_in_part}
use Rattle.paper_entry.specs.Judging.{judge_of, Accepted}
use Rattle.paper_questions.specs.Located.{row_of}
use Rattle.paper_questions.specs.declared.types.Passage.{Passage}
use Rattle.paper_questions.specs.Passage.{text_records, text_record, text_at, has_keyword, is_keyword, begins, begins_with}
use Rattle.paper_questions.specs.Passage.{first_text, NO-PASSAGE, passage_under, passage_of}
use Rattle.paper_entry.specs.Answer.{refusal}
use Rattle.paper_questions.specs.Refused.{no_passage, passage_refusal}
use Rattle.paper_questions.specs.PartAnswers.{passage_by}
use Rattle.paper_questions.specs.Ask.{passage_asked}
use Rattle.paper_questions.proofs.Parts.{part-number}
use Rattle.inside.specs.Inside.{TextOf, InsidePassage}
use Rattle.inside.proofs.RecordsFrom.{place-field}
use Rattle.inside.proofs.RowWalked.{fields-at}
use Rattle.inside.proofs.TextLaid.{row-texts}
use Rattle.inside.specs.Asked.{PassageInside}
use Rattle.inside.proofs.NotRefused.{asked_of, last_none}

module _ (s : List ℕ) (n : ℕ) (keyword : List ℕ) (pointer : ℕ) where
  abbrev bib : RecordNo
  bib = (row_of s n).bib

  -- the text records, the one with the keyword, the next keyword, and the first with the pointer between them
  abbrev N : ℕ
  N = text_records s bib

  abbrev k : ℕ
  k = first_text s bib (is_keyword keyword) 0 N

  abbrev u : ℕ
  u = first_text s bib has_keyword (k + 1) N

  abbrev p : ℕ
  p = first_text s bib (begins_with pointer) k u

  -- a passage with records has been found at both
  both_found : ((passage_of s bib keyword pointer).records ≡ 0 → ⊥) → (k < N) × (p < u)
  unfolding passage_of passage_under
  both_found = by_tests (ltb k N) refl (ltb p u) refl
    where
      by_tests : (b : Bool) → ltb k N ≡ b → (c : Bool) → ltb p u ≡ c
          → ((cond b
          (cond c (record { first = text_record bib p; records = first_text s bib begins (p + 1) N - p }) NO-PASSAGE)
          NO-PASSAGE).records ≡ 0 → ⊥)
          → (k < N) × (p < u)
      by_tests true e true f some = (ltb-true k N e, ltb-true p u f)
      by_tests true e false f some = absurd (some refl)
      by_tests false e c f some = absurd (some refl)

  module _ (accepted : Accepted s) (some : bib.0 ≡ 0 → ⊥) (keyed : k < N) (pointed : p < u) where
    text-of : (m : ℕ) → m < N → TextOf s n (bib.0 + m)
    text-of m h = row-texts s accepted n some m h

    text_at_lem : (m : ℕ) → m < N → text_at s bib m ≡ place_in_part s (bib.0 + m)
    text_at_lem m h =
        let l = (text-of m h).there in
        ap (λ (fs : List (List ℕ)). get_or fs 0 [])
        (fields-at s (bib.0 + m) (omega arith) (text_record bib m) (omega arith))
        ∙ place-field s (bib.0 + m)

    bounds : (k ≤ p) × (u ≤ N)
    bounds =
        let a = first-from (λ m. begins_with pointer (text_at s bib m)) k (u - k) in
        let b = first_to (λ m. has_keyword (text_at s bib m)) (k + 1) (N - (k + 1)) in
        (a, omega arith)

    keyword-here : is_keyword keyword (place_in_part s (bib.0 + k)) ≡ true
    keyword-here =
        rw (text_at_lem k keyed) at
        (first_holds (λ m. is_keyword keyword (text_at s bib m)) 0 (N - 0) (omega arith))

    pointer-here : begins_with pointer (place_in_part s (bib.0 + p)) ≡ true
    pointer-here =
        let (a, b) = bounds in
        rw (text_at_lem p (omega arith)) at
        (first_holds (λ m. begins_with pointer (text_at s bib m)) k (u - k) (omega arith))

    no_keyword : (j : ℕ) → bib.0 + k < j → j ≤ bib.0 + p → has_keyword (place_in_part s j) ≡ false
    no_keyword j a b =
        let (c, d) = bounds in
        let m = j - bib.0 in
        let z : bib.0 + m ≡ j = omega arith in
        let none =
        first-before (λ m. has_keyword (text_at s bib m)) (k + 1) (N - (k + 1)) m (omega arith) (omega arith)
        (omega arith) in
        rw (text_at_lem m (omega arith), z) at none

    passage-inside : InsidePassage s n keyword pointer
    passage-inside =
        let (a, b) = bounds in
        let f = place_in_part s (bib.0 + k) in
        record {
          index = bib.0 + p;
          text = text-of p (omega arith);
          begun = pointer-here;
          keyword-at = bib.0 + k;
          under = record {
            text = text-of k keyed;
            keyword = and_left (has_keyword f) (equal_to 10 f keyword) keyword-here;
            before = omega arith;
            last = no_keyword;
          };
          same = and_right (has_keyword f) (equal_to 10 f keyword) keyword-here;
        }

  abbrev passage : Passage
  passage = passage_of s bib keyword pointer

  asked-passage : passage_refusal s (judge_of s) (row_of s n) passage ≡ 0 → Accepted s × InsidePassage s n keyword pointer
  unfolding passage_refusal
  asked-passage none =
      let asked = asked_of s (row_of s n) bib (refusal 36 (no_passage passage) ∷ []) none in
      let found = last_none s (judge_of s) (row_of s n) bib 36 (no_passage passage) (omega arith) none in
      let (keyed, pointed) = both_found (eqb-false passage.records 0 found) in
      (asked.accepted, passage-inside asked.accepted asked.some keyed pointed)

-- THE THEOREM, for passages
pub passage-asked : PassageInside
unfolding passage_asked passage_by
passage-asked s n keyword pointer e =
    asked-passage s n keyword pointer (sym (part-number s (judge_of s) _ _ _ pointer) ∙ e)
