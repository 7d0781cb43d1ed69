-- The question for a part of a line: what is answered, that nothing else is, and what bytes it has.
-- Assumes nothing.
use Prim.Native.Nat.{ℕ, ◌+◌, ◌-◌, ◌*◌, ◌≤◌}
use mathlib.Core.Path.{◌≡◌, refl, sym, ap, ◌∙◌}
use mathlib.Core.Bool.{Bool, true, false}
use mathlib.Core.List.{List, []}
use native.Mathlib.Omega.{arith}
use lib.Dec.{eqb}
use borrow.Author.Tests.{eqb-false, ne_eqb}
use Rattle.laws.proofs.Booleans.{differ}
use Rattle.paper_cinda.specs.declared.types.CindaNo.{CindaNo}
use Rattle.paper_cinda.specs.declared.types.LinesAnswer.{LinesAnswer}
use Rattle.paper_cinda.specs.declared.types.Piece.{Piece}
use Rattle.paper_cinda.specs.declared.types.Piece.TheVariants.{Whole, Reaction, Quantity, Institute, Reference, Comment}
use Rattle.paper_cinda.specs.declared.types.PieceAnswer.{PieceAnswer}
use Rattle.paper_cinda.specs.Check.{check_of}
use Rattle.paper_cinda.specs.Apart.{has_line, asked_for}
use Rattle.paper_cinda.specs.Pieces.{piece_column, piece_width, piece_asked, piece_in}
use Rattle.paper_cinda.proofs.Lines.{in_line, piece-lies}
use Rattle.cinda_laws.specs.Plain.{in_columns}
use Rattle.cinda_laws.specs.Said.{the_line, told}
use Rattle.cinda_laws.specs.Pieces.{Spans, whole, reaction, quantity, institute, reference, comment, part_answered}
use Rattle.cinda_laws.specs.Pieces.{PieceAnswered, lines_refused, no_such_line, a_piece, PieceSays, PieceAlone}
use Rattle.cinda_laws.specs.Pieces.{PieceColumns, PieceRefused, PieceInside}
use Rattle.cinda_laws.proofs.Lines.{lines-first, lines-alone}
use Rattle.cinda_laws.proofs.Asked.{good_test, has-line, line-has, lines-good, said-none, none_said, no_line}

-- ---- the columns of a part

spans : (p : Piece) → Spans p (piece_column p) (piece_column p + piece_width p - 1)
spans Whole = whole
spans Reaction = reaction
spans Quantity = quantity
spans Institute = institute
spans Reference = reference
spans Comment = comment

record SpanOf (p : Piece) (first last : ℕ) : Type 0 where
  from : first ≡ piece_column p
  wide : last + 1 - first ≡ piece_width p
  low : 1 ≤ first
  high : last ≤ 126
  order : first ≤ last

span_of : {p : Piece} {first last : ℕ} → Spans p first last → SpanOf p first last
span_of whole = record { from = refl; wide = refl; low = omega arith; high = omega arith; order = omega arith }
span_of reaction = record { from = refl; wide = refl; low = omega arith; high = omega arith; order = omega arith }
span_of quantity = record { from = refl; wide = refl; low = omega arith; high = omega arith; order = omega arith }
span_of institute = record { from = refl; wide = refl; low = omega arith; high = omega arith; order = omega arith }
span_of reference = record { from = refl; wide = refl; low = omega arith; high = omega arith; order = omega arith }
span_of comment = record { from = refl; wide = refl; low = omega arith; high = omega arith; order = omega arith }

-- ---- what is answered

module _ (s : List ℕ) (n : CindaNo) (p : Piece) where
  refused-part : good_test s n ≡ false → piece_asked s n p ≡ part_answered (check_of s) 0 0
  unfolding piece_asked asked_for
  refused-part e = rw (e, e) refl

  no-line-part : good_test s n ≡ true → has_line s n ≡ false → piece_asked s n p ≡ part_answered (told 34 0 0) 0 0
  unfolding piece_asked asked_for
  no-line-part e h = rw (e, h) refl

  part : good_test s n ≡ true → has_line s n ≡ true
      → piece_asked s n p ≡ part_answered (told 0 0 0) ((n.0 - 1) * 126 + (piece_column p - 1)) (piece_width p)
  unfolding piece_asked asked_for
  part e h = rw (e, h) refl

  part_at : (first last : ℕ) → good_test s n ≡ true → has_line s n ≡ true → Spans p first last
      → piece_asked s n p ≡ part_answered (told 0 0 0) ((n.0 - 1) * 126 + (first - 1)) (last + 1 - first)
  part_at first last e h x = let y = span_of x in rw (y.wide, y.from) (part e h)

  asked : (b c : Bool) → good_test s n ≡ b → has_line s n ≡ c → PieceAnswered s n p (piece_asked s n p)
  asked false c e h =
      rw (refused-part e) (lines_refused (check_of s) (lines-first s) (eqb-false (check_of s).number 0 e))
  asked true false e h =
      rw (no-line-part e h) (no_such_line (said-none s n e) (λ x. differ (sym (line-has s n x) ∙ h)))
  asked true true e h =
      let y = has-line s n (lines-good s n e).whole h in
      rw (part_at (piece_column p) (piece_column p + piece_width p - 1) e h (spans p))
      (a_piece (piece_column p) (piece_column p + piece_width p - 1) (said-none s n e) y (spans p))

  alone : {a : PieceAnswer} → PieceAnswered s n p a → a ≡ piece_asked s n p
  alone (lines_refused a h z) =
      let same : a ≡ check_of s = lines-alone s a h in
      let e : good_test s n ≡ false = rw (← same) (ne_eqb a.number 0 z) in
      rw (refused-part e) (ap (λ (x : LinesAnswer). part_answered x 0 0) same)
  alone (no_such_line h z) =
      let e = none_said s n h in
      sym (no-line-part e (no_line s n (lines-good s n e).whole z (has_line s n) refl))
  alone (a_piece first last h w x) = sym (part_at first last (none_said s n h) (line-has s n w) x)

pub piece-says : PieceSays
piece-says s n p = asked s n p (eqb (check_of s).number 0) (has_line s n) refl refl

pub piece-alone : PieceAlone
piece-alone s n p a h = alone s n p h

-- ---- its bytes

module _ (s : List ℕ) (n : CindaNo) (p : Piece) where
  said-columns : {a : PieceAnswer} (first last : ℕ) → PieceAnswered s n p a → a.answer.number ≡ 0 → Spans p first last
      → piece_in s a ≡ in_columns (the_line s (n.0 - 1)) first (last + 1 - first)
  said-columns first last (lines_refused a h z) e x = absurd (z e)
  said-columns first last (no_such_line h z) e x = absurd (omega arith)
  said-columns first last (a_piece f g h w y) e x =
      let u = span_of x in
      let v = span_of y in
      let same : f ≡ first = v.from ∙ sym u.from in
      let wide : g + 1 - f ≡ last + 1 - first = v.wide ∙ sym u.wide in
      let a = u.low in
      let b = u.order in
      let c = u.high in
      rw (wide, same) (in_line s (n.0 - 1) (first - 1) (last + 1 - first) (omega arith))

  said-refused : {a : PieceAnswer} → PieceAnswered s n p a → (a.answer.number ≡ 0 → ⊥) → piece_in s a ≡ []
  said-refused (lines_refused a h z) x = refl
  said-refused (no_such_line h z) x = refl
  said-refused (a_piece f g h w y) x = absurd (x refl)

pub piece-columns : PieceColumns
piece-columns s n p first last e x = said-columns s n p first last (piece-says s n p) e x

pub piece-refused : PieceRefused
piece-refused s n p x = said-refused s n p (piece-says s n p) x

pub piece_inside : PieceInside
piece_inside = piece-lies
