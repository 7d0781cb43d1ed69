-- Where a line that is asked for begins: within the most lines that there may be.
-- Assumes nothing.
use Prim.Native.Nat.{ℕ, ◌-◌, ◌+◌, ◌*◌, ◌≤◌}
use mathlib.Core.List.{List}
use native.Mathlib.Omega.{arith}
use Rattle.paper_cinda.specs.declared.types.CindaNo.{CindaNo}
use Rattle.paper_cinda.specs.declared.types.Piece.TheVariants.{Whole}
use Rattle.paper_cinda.specs.declared.types.PieceAnswer.{PieceAnswer}
use Rattle.paper_cinda.specs.Pieces.{piece_asked}
use Rattle.cinda_laws.specs.Pieces.{whole, PieceAnswered, lines_refused, no_such_line, a_piece}
use Rattle.cinda_laws.proofs.Pieces.{piece-says}

begins : (n many : ℕ) → n ≤ many → many ≤ 20000 → (n - 1) * 126 + (1 - 1) ≤ 2520000
begins n many h i = omega arith

few : (s : List ℕ) (n : CindaNo) {a : PieceAnswer} → PieceAnswered s n Whole a → a.first ≤ 2520000
few s n (lines_refused a said refused) = omega arith
few s n (no_such_line said none) = omega arith
few s n (a_piece first last said has whole) = begins n.0 has.whole.many has.to has.whole.most

pub first-few : (s : List ℕ) (n : CindaNo) → (piece_asked s n Whole).first ≤ 2520000
first-few s n = few s n (piece-says s n Whole)
