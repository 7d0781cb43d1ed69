-- The answers about a line, by what the check answered and by the line's number.
-- Assumes nothing.
use Prim.Native.Nat.{ℕ, ◌+◌, ◌-◌, ◌*◌}
use mathlib.Core.Path.{◌≡◌, refl}
use mathlib.Core.Bool.{true, false}
use mathlib.Core.List.{List}
use borrow.Author.Tests.{ne_eqb, eq-eqb}
use Rattle.paper_cinda.specs.declared.types.CindaNo.{CindaNo}
use Rattle.paper_cinda.specs.declared.types.LinesAnswer.{LinesAnswer}
use Rattle.paper_cinda.specs.declared.types.Line.{Line}
use Rattle.paper_cinda.specs.declared.types.Piece.{Piece}
use Rattle.paper_cinda.specs.Layout.{LINE, line_at}
use Rattle.paper_cinda.specs.Check.{said_of, check_of}
use Rattle.paper_cinda.specs.Apart.{has_line, asked_for, line_of, no_line, line_asked}
use Rattle.paper_cinda.specs.Pieces.{piece_column, piece_width, piece_asked}

module _ (s : List ℕ) (n : CindaNo) (v : LinesAnswer) (same : v ≡ check_of s) where
  pub refused-lines : (v.number ≡ 0 → ⊥) → v ≡ asked_for s n
  unfolding asked_for
  refused-lines h = rw (← same, ne_eqb v.number 0 h) refl

  pub no_such_line : v.number ≡ 0 → has_line s n ≡ false → said_of 34 ≡ asked_for s n
  unfolding asked_for
  no_such_line e h = rw (← same, e, h) refl

  pub such-line : v.number ≡ 0 → has_line s n ≡ true → said_of 0 ≡ asked_for s n
  unfolding asked_for
  such-line e h = rw (← same, e, h) refl

module _ (s : List ℕ) (n : CindaNo) (a : LinesAnswer) (same : a ≡ asked_for s n) where
  pub refused-line : (l : Line) → l ≡ no_line → (a.number ≡ 0 → ⊥) → record { answer = a; line = l } ≡ line_asked s n
  unfolding line_asked
  refused-line l e h = rw (← same, e, ne_eqb a.number 0 h) refl

  pub answered-line : (l : Line) → l ≡ line_of (line_at s (n.0 - 1)) → a.number ≡ 0
      → record { answer = a; line = l } ≡ line_asked s n
  unfolding line_asked
  answered-line l e h = rw (← same, e, eq-eqb a.number 0 h) refl

  module _ (p : Piece) where
    pub refused-piece : (a.number ≡ 0 → ⊥) → record { answer = a; first = 0; length = 0 } ≡ piece_asked s n p
    unfolding piece_asked
    refused-piece h = rw (← same, ne_eqb a.number 0 h) refl

    pub answered-piece : (column width : ℕ) → column ≡ piece_column p → width ≡ piece_width p → a.number ≡ 0
        → record { answer = a; first = (n.0 - 1) * LINE + (column - 1); length = width } ≡ piece_asked s n p
    unfolding piece_asked
    answered-piece column width c w h = rw (← same, c, w, eq-eqb a.number 0 h) refl
