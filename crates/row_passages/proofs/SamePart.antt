-- The passage from a row is the full one where all counted text records lie inside the entry and no two bear one
-- keyword. For any bytes.
-- Assumes nothing.
use Prim.Native.Nat.{ℕ, ◌-◌, ◌*◌}
use mathlib.Core.Path.{◌≡◌, refl, sym, ◌∙◌, ap}
use mathlib.Core.Bool.{◌&&◌}
use mathlib.Core.List.{List, [], ◌∷◌}
use native.Mathlib.Omega.{arith}
use lib.Dec.{eqb, ltb}
use borrow.Author.Tests.{eq-eqb, ne_eqb, lt-ltb, le-ltb}
use Rattle.laws.proofs.Search.{either}
use Rattle.paper_record.specs.declared.types.RecordNo.{RecordNo}
use Rattle.paper_entry.specs.declared.types.Verdict.{Verdict}
use Rattle.paper_entry.specs.Answer.{refusal, first_of}
use Rattle.paper_questions.specs.declared.types.Passage.{Passage}
use Rattle.paper_questions.specs.declared.types.PartAnswer.{PartAnswer}
use Rattle.paper_questions.specs.Place.{first_byte}
use Rattle.paper_questions.specs.Passage.{text_records, text_record, passage_of}
use Rattle.paper_questions.specs.Refused.{no_passage}
use Rattle.paper_questions.specs.PartAnswers.{part_with}
use Rattle.paper_index.specs.TableAnswers.{part_beside}
use Rattle.paper_index.specs.PassageAnswers.{begun_at, ended_at, texts_counted, texts_held}
use Rattle.row_passages.proofs.PassageEnds.{begun_to, ended-bounds}
use Rattle.row_passages.proofs.Searched.{KeywordOnce, passage-found}

module _ (s : List ℕ) (bib : RecordNo) (keyword : List ℕ) (pointer : ℕ) where
  -- the part by the text records that are counted and those that lie inside
  abbrev part_by : ℕ → ℕ → PartAnswer
  part_by counted held =
      let from = begun_at s bib keyword pointer held in
      let past = ended_at s bib from held in
      part_beside s (first_of (refusal 39 (ltb held counted && eqb past held) ∷ refusal 36 (eqb from held) ∷ []))
      (first_byte (text_record bib from)) ((past - from) * 81) pointer

  module _ (n : ℕ) (once : KeywordOnce s bib n) (texts : text_records s bib ≡ n) (v : Verdict) where
    abbrev from : ℕ
    from = begun_at s bib keyword pointer n

    abbrev past : ℕ
    past = ended_at s bib from n

    -- the full one
    abbrev part_of : Passage → PartAnswer
    part_of p =
        part_with s v (first_of (refusal 36 (no_passage p) ∷ [])) (first_byte p.first) (p.records * 81) pointer

    same-part : part_of (passage_of s bib keyword pointer) ≡ part_by n n
    same-part =
        rw (passage-found s bib keyword pointer n once texts)
        (either from n
        (λ l.
        let e = (ended-bounds s bib from n l).0 in
        rw (
          lt-ltb from n l,
          le-ltb n n (omega arith),
          ne_eqb from n (λ z. omega arith),
          ne_eqb (past - from) 0 (λ z. omega arith),
        ) refl)
        (λ l.
        let e = begun_to s bib keyword pointer n in
        rw (le-ltb from n l, le-ltb n n (omega arith), eq-eqb from n (omega arith)) refl))

    -- with the counts of the section
    pub part_same : texts_counted s bib ≡ n → texts_held s bib ≡ n
        → part_of (passage_of s bib keyword pointer) ≡ part_by (texts_counted s bib) (texts_held s bib)
    part_same c h =
        same-part ∙ sym (ap (λ (m : ℕ). part_by m n) c) ∙ sym (ap (λ (m : ℕ). part_by (texts_counted s bib) m) h)
