-- The question in an entry, case by case.
-- Assumes nothing.
use mathlib.Core.Path.{◌≡◌, refl}
use mathlib.Core.List.{List}
use Prim.Native.Nat.{ℕ, ◌/◌}
use borrow.Author.Tests.{eq-eqb, ne_eqb}
use lib.ListN.{length}
use Rattle.paper_questions.specs.PartAnswers.{bytes_in}
use Rattle.paper_codes.specs.Asked.{code_in, stored_in, answered, passage_at, code_asked, code_stored}

module _ (s : List ℕ) (n pointer j : ℕ) where
  pub asked-refused : (room : ℕ) → ((passage_at s n pointer).answer.number ≡ 0 → ⊥)
      → code_asked s n pointer j room ≡ record { answer = (passage_at s n pointer).answer; length = 0 }
  unfolding code_asked
  asked-refused room h = rw (ne_eqb (passage_at s n pointer).answer.number 0 h) refl

  pub asked_in : (room : ℕ) → (passage_at s n pointer).answer.number ≡ 0
      → code_asked s n pointer j room
      ≡ answered ((passage_at s n pointer).first / 81) (code_in (bytes_in s (passage_at s n pointer)) j room)
  unfolding code_asked
  asked_in room z = rw (eq-eqb (passage_at s n pointer).answer.number 0 z) refl

  pub none-stored : (y : List ℕ) → ((passage_at s n pointer).answer.number ≡ 0 → ⊥) → code_stored s n pointer j y ≡ y
  unfolding code_stored
  none-stored y h = rw (ne_eqb (passage_at s n pointer).answer.number 0 h) refl

  pub in-stored : (y : List ℕ) → (passage_at s n pointer).answer.number ≡ 0
      → code_stored s n pointer j y ≡ stored_in (bytes_in s (passage_at s n pointer)) j y
  unfolding code_stored
  in-stored y z = rw (eq-eqb (passage_at s n pointer).answer.number 0 z) refl
