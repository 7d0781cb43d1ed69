-- What an answer's number says: 0 only where the entry is accepted and the row of the subentry names the section; and
-- what then stands beside it.
-- Assumes nothing.
use Prim.Native.Nat.{ℕ, ◌+◌, ◌≤◌}
use mathlib.Core.Path.{◌≡◌, refl, sym, ◌∙◌}
use mathlib.Core.Bool.{Bool, true, false, cond, not}
use mathlib.Core.List.{List, [], ◌∷◌, ◌++◌}
use native.Mathlib.Omega.{arith}
use lib.Dec.{eqb, leb}
use lib.ListN.{length}
use borrow.Author.Tests.{eqb-true, eqb-false}
use Rattle.paper_record.specs.declared.types.RecordNo.{RecordNo}
use Rattle.paper_entry.specs.declared.types.Verdict.{Verdict}
use Rattle.paper_entry.specs.Judging.{judge_of, Accepted}
use Rattle.paper_entry.specs.Answer.{Refusal, refusal, first_of, is_refused, answer_of, answer_for}
use Rattle.paper_entry.proofs.Answers.{answer-number}
use Rattle.paper_questions.specs.declared.types.Row.{Row}
use Rattle.paper_questions.specs.declared.types.PartAnswer.{PartAnswer}
use Rattle.paper_questions.specs.Refused.{is_subent, no_section, section_refusals}
use Rattle.paper_questions.specs.PartAnswers.{no_part, part_with}

-- ---- a part that is handed back, or not

module _ (s : List ℕ) (v : Verdict) (number from bytes pointer : ℕ) where
  abbrev part : Bool → Bool → PartAnswer
  part b c =
      cond b
      (cond c (record { answer = answer_of 0; first = from; length = bytes; pointer = pointer }) (no_part (answer_of 0)))
      (no_part (answer_for v number))

  -- "zeros with any other answer"
  pub part-zeros : (part_with s v number from bytes pointer).answer.number ≡ 0
      → (part_with s v number from bytes pointer).answer ≡ answer_of 0
  part-zeros = by_tests (eqb number 0) refl (leb (from + bytes) (length s))
    where
      by_tests : (b : Bool) → eqb number 0 ≡ b → (c : Bool) → (part b c).answer.number ≡ 0
          → (part b c).answer ≡ answer_of 0
      by_tests true e true h = refl
      by_tests true e false h = refl
      by_tests false e c h = absurd (eqb-false number 0 e (sym (answer-number v number) ∙ h))

  -- one that is as long as was asked is that part
  pub part-there : (part_with s v number from bytes pointer).length ≡ bytes → 1 ≤ bytes
      → ((part_with s v number from bytes pointer).first ≡ from)
      × ((part_with s v number from bytes pointer).pointer ≡ pointer)
  part-there = by_tests (eqb number 0) (leb (from + bytes) (length s))
    where
      by_tests : (b c : Bool) → (part b c).length ≡ bytes → 1 ≤ bytes
          → ((part b c).first ≡ from) × ((part b c).pointer ≡ pointer)
      by_tests true true e h = (refl, refl)
      by_tests true false e h = absurd (omega arith)
      by_tests false c e h = absurd (omega arith)

-- ---- a question that is not refused

pub record Asked (s : List ℕ) (at : RecordNo) : Type 0 where
  pub accepted : Accepted s
  pub some : at.0 ≡ 0 → ⊥

pub asked_of : (s : List ℕ) (x : Row) (at : RecordNo) (ys : List Refusal)
    → first_of (section_refusals s (judge_of s) x at ++ ys) ≡ 0 → Asked s at
asked_of s x at ys =
    by_tests (eqb (judge_of s).refusal 0) refl (not (is_subent s x)) (eqb at.0 0) refl
  where
    by_tests : (a : Bool) → eqb (judge_of s).refusal 0 ≡ a → (b c : Bool) → eqb at.0 0 ≡ c
        → first_of (refusal 31 (not a) ∷ refusal 32 b ∷ refusal 33 c ∷ ys) ≡ 0 → Asked s at
    by_tests false p b c q e = absurd (omega arith)
    by_tests true p true c q e = absurd (omega arith)
    by_tests true p false true q e = absurd (omega arith)
    by_tests true p false false q e =
        record { accepted = eqb-true (judge_of s).refusal 0 p; some = eqb-false at.0 0 q }

-- nor is it refused by a number that comes behind those of the section
pub last_none : (s : List ℕ) (v : Verdict) (x : Row) (at : RecordNo) (number : ℕ) (b : Bool) → 1 ≤ number
    → first_of (section_refusals s v x at ++ (refusal number b ∷ [])) ≡ 0 → b ≡ false
last_none s v x at number b h = by_tests (is_refused v) (not (is_subent s x)) (no_section at) b
  where
    by_tests : (p q r b : Bool) → first_of (refusal 31 p ∷ refusal 32 q ∷ refusal 33 r ∷ refusal number b ∷ []) ≡ 0
        → b ≡ false
    by_tests true q r b e = absurd (omega arith)
    by_tests false true r b e = absurd (omega arith)
    by_tests false false true b e = absurd (omega arith)
    by_tests false false false true e = absurd (omega arith)
    by_tests false false false false e = refl
