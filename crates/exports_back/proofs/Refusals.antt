-- The numbers of refusals of questions: they fit their words.
-- Assumes nothing.
use Prim.Native.Nat.{ℕ, ◌^◌, ◌<◌, ◌≤◌}
use mathlib.Core.Path.{◌≡◌, refl}
use mathlib.Core.List.{List, [], ◌∷◌, ◌++◌}
use native.Mathlib.Omega.{arith}
use Rattle.laws.specs.Walk.{All}
use Rattle.paper_record.specs.declared.types.RecordNo.{RecordNo}
use Rattle.laws.proofs.EitherWay.{either_way}
use Rattle.paper_entry.specs.Judging.{judge_of}
use Rattle.paper_entry.specs.Answer.{Refusal, first_of}
use Rattle.paper_questions.specs.declared.types.Row.{Row}
use Rattle.paper_questions.specs.Refused.{section_refusals}

-- 0, or one from 31 on that has room
pub record Numbered (n : ℕ) : Type 0 where
  pub few : n < 2 ^ 8
  pub far : (n ≡ 0 → ⊥) → 31 ≤ n

pub first-numbered : (xs : List Refusal) → All (λ x. Numbered x.number) xs → Numbered (first_of xs)
first-numbered [] h = record { few = omega arith; far = λ z. absurd (z refl) }
first-numbered (x ∷ xs) h = either_way Numbered x.given x.number (first_of xs) h.0 (first-numbered xs h.1)

pub one : (n : ℕ) → 31 ≤ n → n < 2 ^ 8 → Numbered n
one n h i = record { few = i; far = λ z. h }

module _ (s : List ℕ) (x : Row) (at : RecordNo) (ys : List Refusal) where
  pub section-numbered : All (λ y. Numbered y.number) ys
      → Numbered (first_of (section_refusals s (judge_of s) x at ++ ys))
  section-numbered h =
      first-numbered (section_refusals s (judge_of s) x at ++ ys) (
        one 31 (omega arith) (omega arith),
        (one 32 (omega arith) (omega arith), (one 33 (omega arith) (omega arith), h)),
      )
