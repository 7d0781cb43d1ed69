-- The six places, from the first byte of the whole line: each is the one that the question for its piece answers.
-- Assumes nothing.
use Prim.Native.Nat.{ℕ, ◌+◌, ◌-◌, ◌*◌}
use mathlib.Core.Path.{◌≡◌, refl, ap}
use mathlib.Core.Bool.{Bool, true, false}
use mathlib.Core.List.{List}
use native.Mathlib.Omega.{arith}
use lib.Dec.{eqb}
use Rattle.paper_cinda.specs.declared.types.CindaNo.{CindaNo}
use Rattle.paper_cinda.specs.declared.types.Piece.TheVariants.{Whole}
use Rattle.paper_cinda.specs.Layout.{LINE}
use Rattle.paper_cinda.specs.Apart.{asked_for}
use Rattle.paper_cinda.specs.Pieces.{piece_asked}
use Rattle.exports_words.specs.Words.{lent_after}
use Rattle.exports_lines.specs.Pieces.{pieces_stored, places_from, places_stored}

pub places-found : (before s : List ℕ) (n : CindaNo) → places_stored before (piece_asked s n Whole) ≡ pieces_stored before s n
unfolding places_stored pieces_stored piece_asked lent_after
places-found before s n = by (eqb (asked_for s n).number 0) refl
  where
    by : (b : Bool) → eqb (asked_for s n).number 0 ≡ b
        → places_stored before (piece_asked s n Whole) ≡ pieces_stored before s n
    by true e =
        let none : (n.0 - 1) * LINE + 0 ≡ (n.0 - 1) * LINE = omega arith in
        rw e (ap places_from none)
    by false e = rw e refl
