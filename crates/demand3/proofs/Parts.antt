-- A part of an accepted entry that has no byte of a value record is handed back alike from the copy.
-- Assumes nothing.
use Prim.Native.Nat.{ℕ, ◌+◌, ◌-◌, ◌/◌, ◌%◌, ◌<◌, ◌≤◌}
use mathlib.Core.Path.{◌≡◌, refl, sym, ◌∙◌, ap}
use mathlib.Core.Bool.{Bool, true, false, cond}
use mathlib.Core.List.{List}
use native.Mathlib.Omega.{arith}
use lib.Dec.{eqb, leb}
use lib.ListN.{length, take, drop, get_or}
use borrow.Author.Tests.{eqb-true, leb-true}
use Rattle.paper_rules.specs.Roles.{is_value}
use Rattle.paper_record.specs.declared.types.RecordNo.{RecordNo}
use Rattle.paper_entry.specs.declared.types.Verdict.{Verdict}
use Rattle.paper_entry.specs.Judging.{Accepted}
use Rattle.paper_entry.specs.Contexts.{role_at}
use Rattle.paper_entry.specs.Answer.{answer_of, answer_for}
use Rattle.paper_questions.specs.declared.types.PartAnswer.{PartAnswer}
use Rattle.paper_questions.specs.Place.{fields_at}
use Rattle.paper_questions.specs.PartAnswers.{no_part, part_with}
use Rattle.paper_copy.specs.Copy.{copy_of}
use Rattle.paper_copy.proofs.Demand.{passed, copy-long, byte-of}
use Rattle.paper_copy.proofs.Unchanged.{part-of-bytes}
use Rattle.demand3.specs.Same.{SamePart}
use Rattle.demand3.proofs.CopiedRecords.{block-kept, fields-kept}

-- a record of the entry that is no value record
pub record NoValues (s : List ℕ) (at : RecordNo) : Type 0 where
  pub from : 1 ≤ at.0
  pub to : at.0 ≤ length s / 81
  pub role : is_value (role_at s (at.0 - 1)) ≡ false

-- so many bytes from a byte on, all of them of such records
abbrev pub Words : List ℕ → ℕ → ℕ → Type 0
Words s from bytes = (p : ℕ) → from ≤ p → p < from + bytes → is_value (role_at s (p / 81)) ≡ false

module _ (s : List ℕ) (accepted : Accepted s) where
  pub fields-same : (at : RecordNo) → NoValues s at → fields_at (copy_of s) at ≡ fields_at s at
  fields-same at h =
      let a = h.from in
      let b = h.to in
      fields-kept s accepted (at.0 - 1) (omega arith) h.role at (omega arith)

  byte-kept : (p : ℕ) → p < length s → is_value (role_at s (p / 81)) ≡ false → get_or (copy_of s) p 0 ≡ get_or s p 0
  byte-kept p l e =
      let whole = (passed s accepted).whole in
      sym (byte-of (copy_of s) p)
      ∙ ap (λ (r : List ℕ). get_or r (p % 81) 0) (block-kept s accepted (p / 81) (omega arith) e)
      ∙ byte-of s p

  words-kept : (at n : ℕ) → at + n ≤ length s → Words s at n → take n (drop at (copy_of s)) ≡ take n (drop at s)
  words-kept at n room h =
      part-of-bytes s (copy_of s) (copy-long s (passed s accepted)) at n room
      (λ p l m. byte-kept p (omega arith) (h p l m))

  -- what is handed back, with `pointer` beside it in the entry and `copied` in the copy
  pub part_same : (v : Verdict) (number from bytes pointer copied : ℕ) → (number ≡ 0 → copied ≡ pointer)
      → (number ≡ 0 → Words s from bytes)
      → SamePart (copy_of s) s (part_with (copy_of s) v number from bytes copied) (part_with s v number from bytes pointer)
  part_same v number from bytes pointer copied same h =
      rw (copy-long s (passed s accepted)) (by_number (eqb number 0) refl)
    where
      part : Bool → ℕ → PartAnswer
      part b mark =
          cond b (record { answer = answer_of 0; first = from; length = bytes; pointer = mark }) (no_part (answer_of 0))

      by_length : (b : Bool) → leb (from + bytes) (length s) ≡ b → number ≡ 0
          → SamePart (copy_of s) s (part b copied) (part b pointer)
      by_length true l e =
          record {
            places = rw (same e);
            words = words-kept from bytes (leb-true (from + bytes) (length s) l) (h e);
          }
      by_length false l e = record { places = refl; words = refl }

      handed : Bool → ℕ → PartAnswer
      handed b mark = cond b (part (leb (from + bytes) (length s)) mark) (no_part (answer_for v number))

      by_number : (b : Bool) → eqb number 0 ≡ b → SamePart (copy_of s) s (handed b copied) (handed b pointer)
      by_number true e = by_length (leb (from + bytes) (length s)) refl (eqb-true number 0 e)
      by_number false e = record { places = refl; words = refl }
