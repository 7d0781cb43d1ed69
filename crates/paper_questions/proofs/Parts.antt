-- A part that is handed back lies in the entry, and its answer has the number that was found.
-- Assumes nothing.
use Prim.Native.Nat.{ℕ, ◌+◌, ◌*◌}
use mathlib.Core.Path.{◌≡◌, refl, sym, ◌∙◌}
use mathlib.Core.Bool.{Bool, true, false, cond}
use mathlib.Core.List.{List}
use native.Mathlib.Omega.{arith}
use lib.Dec.{eqb, leb}
use lib.ListN.{length}
use borrow.Author.Tests.{leb-true, eqb-true}
use Rattle.paper_record.specs.Word.{pointer_of}
use Rattle.paper_record.specs.declared.types.Place.{Place}
use Rattle.paper_entry.specs.declared.types.Verdict.{Verdict}
use Rattle.paper_entry.specs.Answer.{answer_of, answer_for}
use Rattle.paper_entry.proofs.Answers.{answer-number}
use Rattle.paper_questions.specs.declared.types.Row.{Row}
use Rattle.paper_questions.specs.Place.{shape_of, heading_place, unit_place, field_of, first_byte, byte_of}
use Rattle.paper_questions.specs.Passage.{passage_of}
use Rattle.paper_questions.specs.Refused.{section_in, column_refusal, passage_refusal}
use Rattle.paper_questions.specs.PartAnswers.{no_part, part_from, part_with, Lies, heading_by, unit_by, passage_by}

module _ (s : List ℕ) (v : Verdict) (number from bytes pointer : ℕ) where
  from-lies : Lies s (part_from s (answer_of 0) from bytes pointer)
  from-lies = by-test (leb (from + bytes) (length s)) refl
    where
      by-test : (t : Bool) → leb (from + bytes) (length s) ≡ t
          → Lies s
          (cond t (record { answer = answer_of 0; first = from; length = bytes; pointer = pointer }) (no_part (answer_of 0)))
      by-test true e = record { within = leb-true (from + bytes) (length s) e }
      by-test false e = record { within = omega arith }

  pub part_lies : Lies s (part_with s v number from bytes pointer)
  part_lies = by-test (eqb number 0)
    where
      by-test : (t : Bool)
          → Lies s (cond t (part_from s (answer_of 0) from bytes pointer) (no_part (answer_for v number)))
      by-test true = from-lies
      by-test false = record { within = omega arith }

  -- the number of a part's answer
  pub part-number : (part_with s v number from bytes pointer).answer.number ≡ number
  part-number = by_number (eqb number 0) refl
    where
      by-room : (b : Bool)
          → (cond b (record { answer = answer_of 0; first = from; length = bytes; pointer = pointer })
          (no_part (answer_of 0))).answer.number ≡ 0
      by-room true = refl
      by-room false = refl

      by_number : (b : Bool) → eqb number 0 ≡ b
          → (cond b (part_from s (answer_of 0) from bytes pointer) (no_part (answer_for v number))).answer.number ≡ number
      by_number true e = by-room (leb (from + bytes) (length s)) ∙ sym (eqb-true number 0 e)
      by_number false e = answer-number v number

module _ (s : List ℕ) (v : Verdict) (x : Row) where
  abbrev asked : ℕ → ℕ → ℕ
  asked section column =
      column_refusal s v x (section_in x section) (shape_of s section (section_in x section)) column

  abbrev heading : ℕ → ℕ → Place
  heading section column = heading_place (section_in x section) column

  abbrev unit : ℕ → ℕ → Place
  unit section column =
      unit_place (section_in x section) (shape_of s section (section_in x section)).columns column

  pub heading-lies : (section column : ℕ) → Lies s (heading_by s v x section column)
  unfolding heading_by
  heading-lies section column =
      part_lies s v (asked section column) (byte_of (heading section column)) 10
      (pointer_of (field_of s (heading section column)))

  pub unit-lies : (section column : ℕ) → Lies s (unit_by s v x section column)
  unfolding unit_by
  unit-lies section column =
      part_lies s v (asked section column) (byte_of (unit section column)) 10
      (pointer_of (field_of s (heading section column)))

  pub passage-lies : (keyword : List ℕ) (pointer : ℕ) → Lies s (passage_by s v x keyword pointer)
  unfolding passage_by
  passage-lies keyword pointer =
      let p = passage_of s x.bib keyword pointer in
      part_lies s v (passage_refusal s v x p) (first_byte p.first) (p.records * 81) pointer
