-- A passage asked of an entry is the passage from its row, found by judging (`PassageByRow` in paper_index, Claims).
-- Assumes nothing.
use Prim.Native.Nat.{ℕ, ◌-◌, ◌*◌}
use mathlib.Core.Path.{◌≡◌, refl, sym, ◌∙◌, ap}
use mathlib.Core.Bool.{Bool, true, false}
use mathlib.Core.List.{List, [], ◌∷◌, ◌++◌}
use lib.Dec.{eqb}
use borrow.Author.Tests.{eqb-true, eqb-false, eq-eqb, ne_eqb}
use Rattle.paper_record.specs.declared.types.RecordNo.{RecordNo}
use Rattle.paper_entry.specs.declared.types.Verdict.{Verdict}
use Rattle.paper_entry.specs.Judging.{judge_of, Accepted}
use Rattle.paper_entry.specs.Answer.{refusal, first_of}
use Rattle.paper_questions.specs.declared.types.Row.{Row}
use Rattle.paper_questions.specs.declared.types.Passage.{Passage}
use Rattle.paper_questions.specs.declared.types.PartAnswer.{PartAnswer}
use Rattle.paper_questions.specs.Place.{first_byte}
use Rattle.paper_questions.specs.Located.{row_of}
use Rattle.paper_questions.specs.Passage.{text_records, text_record, passage_of}
use Rattle.paper_questions.specs.Refused.{is_subent, no_section, no_passage, section_refusals, passage_refusal}
use Rattle.paper_questions.specs.PartAnswers.{part_with, passage_by}
use Rattle.paper_questions.specs.Ask.{passage_asked}
use Rattle.paper_questions.proofs.RowChanges.{bib}
use Rattle.paper_index.specs.TableAnswers.{part_beside}
use Rattle.paper_index.specs.PassageAnswers.{begun_at, ended_at, texts_held, passage_refusals, passage_from_row}
use Rattle.paper_index.specs.Asked.{part_found}
use Rattle.paper_index.specs.Claims.{PassageByRow}
use Rattle.row_answers.proofs.FirstRecord.{none-there}
use Rattle.row_answers.proofs.RowReads.{reads_same}
use Rattle.row_passages.proofs.TextsHeld.{texts-counted, texts-held, texts-once}
use Rattle.row_passages.proofs.SamePart.{part_same}

module _ (s : List ℕ) (n : ℕ) (keyword : List ℕ) (pointer : ℕ) where
  abbrev v : Verdict
  v = judge_of s

  abbrev x : Row
  x = row_of s n

  abbrev section : RecordNo
  section = x.bib

  abbrev Goal : Type 0
  Goal = passage_asked s n keyword pointer ≡ part_found v x (passage_from_row s x keyword pointer)

  -- 31
  of-refused : (v.refusal ≡ 0 → ⊥) → Goal
  unfolding passage_asked passage_by passage_refusal part_found
  of-refused h = rw (ne_eqb v.refusal 0 h) refl

  module _ (accepted : Accepted s) where
    -- 32
    of-missing : x.first.0 ≡ 0 → Goal
    unfolding passage_asked passage_by passage_refusal part_found
    of-missing e =
        rw (eq-eqb v.refusal 0 accepted, none-there s x e, eq-eqb x.first.0 0 e) refl

    module _ (there : x.first.0 ≡ 0 → ⊥) where
      row-found : (p : PartAnswer) → part_found v x p ≡ p
      unfolding part_found
      row-found p = rw (eq-eqb v.refusal 0 accepted, ne_eqb x.first.0 0 there) refl

      abbrev p : Passage
      p = passage_of s section keyword pointer

      abbrev from : ℕ
      from = begun_at s section keyword pointer (texts_held s section)

      abbrev past : ℕ
      past = ended_at s section from (texts_held s section)

      -- the part beside a number, in full and from the row
      abbrev full : ℕ → PartAnswer
      full number = part_with s v number (first_byte p.first) (p.records * 81) pointer

      abbrev beside : ℕ → PartAnswer
      beside number = part_beside s number (first_byte (text_record section from)) ((past - from) * 81) pointer

      -- the refusals that come first are the same
      from_row : passage_from_row s x keyword pointer
          ≡ beside (first_of (section_refusals s v x section ++ passage_refusals s section from past))
      unfolding passage_from_row
      from_row = ap beside (reads_same s accepted n there bib (passage_refusals s section from past))

      abbrev Same : Type 0
      Same =
          full (first_of (section_refusals s v x section ++ (refusal 36 (no_passage p) ∷ [])))
          ≡ beside (first_of (section_refusals s v x section ++ passage_refusals s section from past))

      by_tests : (b : Bool) → is_subent s x ≡ b → (c : Bool) → no_section section ≡ c → Same
      by_tests false e c f = rw (eq-eqb v.refusal 0 accepted, e) refl
      by_tests true e true f = rw (eq-eqb v.refusal 0 accepted, e, f) refl
      by_tests true e false f =
          let some = eqb-false section.0 0 f in
          rw (eq-eqb v.refusal 0 accepted, e, f)
          (part_same s section keyword pointer (text_records s section) (texts-once s accepted n some) refl v
          (texts-counted s accepted n some) (texts-held s accepted n some))

      of-found : Goal
      unfolding passage_asked passage_by passage_refusal
      of-found =
          by_tests (is_subent s x) refl (no_section section) refl ∙ sym from_row
          ∙ sym (row-found (passage_from_row s x keyword pointer))

  by_row : Goal
  by_row = by-verdict (eqb v.refusal 0) refl (eqb x.first.0 0) refl
    where
      by-verdict : (a : Bool) → eqb v.refusal 0 ≡ a → (b : Bool) → eqb x.first.0 0 ≡ b → Goal
      by-verdict false e b f = of-refused (eqb-false v.refusal 0 e)
      by-verdict true e true f = of-missing (eqb-true v.refusal 0 e) (eqb-true x.first.0 0 f)
      by-verdict true e false f = of-found (eqb-true v.refusal 0 e) (eqb-false x.first.0 0 f)

-- THE THEOREM
pub passage-by-row : PassageByRow
passage-by-row s n keyword pointer = by_row s n keyword pointer
