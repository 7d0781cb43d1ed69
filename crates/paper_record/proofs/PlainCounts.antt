-- The answer of a count by its columns: the number that they say, or 7.
-- Assumes nothing.
use Prim.Native.Nat.{ℕ}
use mathlib.Core.Path.{◌≡◌, refl, ap}
use mathlib.Core.List.{List}
use native.Mathlib.Omega.{arith}
use Rattle.std.proofs.Common.{Option, Some, None}
use Rattle.paper_record.specs.System.{integer_of, CountAnswer, count_answer}
use Rattle.paper_record.specs.Plain.{CountSays, CountAnswered, a_count, no-count, CountAnswerExactly}
use Rattle.paper_record.proofs.PlainDigits.{count-exactly}

module _ (w : ℕ) (f : List ℕ) where
  answered : (x : Option ℕ) → integer_of w f ≡ x → CountAnswered w f (count_answer x)
  answered (Some m) e = a_count m ((count-exactly w f m).0 e)
  answered None e =
      no-count (λ m s. let q = (count-exactly w f m).1 s in let z : ◌≡◌ {A = ℕ} 0 1 = cc in absurd (omega arith))

  none_said : (x : Option ℕ) → integer_of w f ≡ x → ((m : ℕ) → CountSays w f m → ⊥)
      → count_answer (integer_of w f) ≡ record { refusal = 7; number = 0 }
  none_said (Some m) e h = absurd (h m ((count-exactly w f m).0 e))
  none_said None e h = ap count_answer e

  said : {a : CountAnswer} → CountAnswered w f a → count_answer (integer_of w f) ≡ a
  said (a_count m s) = ap count_answer ((count-exactly w f m).1 s)
  said (no-count h) = none_said (integer_of w f) refl h

pub count-answer-exactly : CountAnswerExactly
count-answer-exactly w f a = (λ e. rw e at (answered w f (integer_of w f) refl), said w f)
