-- A record of a passage in hand in its room of the word, and the number of such an answer.
-- Assumes nothing.
use Prim.Native.Nat.{ℕ, ◌+◌, ◌%◌}
use mathlib.Core.Path.{◌≡◌, refl}
use native.Mathlib.Omega.{arith}
use Rattle.laws.proofs.EitherWay.{either_way}
use Rattle.paper_record.specs.Text.{within}
use Rattle.paper_entry.specs.declared.types.Answer.{Answer}
use Rattle.exports_words.specs.Words.{answer_word}
use Rattle.paper_codes.specs.declared.types.CodeIn.{CodeIn}
use Rattle.paper_codes.specs.Asked.{answer_in}

-- one behind `at`, cut before and after
cut : (at : ℕ) → (at % 16777216 + 1) % 16777216 % 16777216 ≡ (0 + at + 1) % 16777216
cut at = omega arith

abbrev placed : ℕ → ℕ → ℕ → Answer
placed n at column = record { number = n; refusal = 0; «record» = record { 0 = at }; column = column; ordinal = 0 }

pub cut-alike : (n at column : ℕ)
    → answer_word (placed n ((at % 16777216 + 1) % 16777216) column) ≡ answer_word (placed n (0 + at + 1) column)
unfolding answer_word
cut-alike n at column = rw (cut at) refl

pub number-in : (before : ℕ) (x : CodeIn) → (answer_in before x).number ≡ x.number
number-in before x = either_way (λ (a : Answer). a.number ≡ x.number) (within 50 51 x.number) _ _ refl refl
