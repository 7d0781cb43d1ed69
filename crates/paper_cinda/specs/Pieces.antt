-- The texts of a line as parts of the caller's lines (document 000, ch. 10): reaction 9-23, quantity 24-27, institute 28-33,
-- reference code 58-79, comment 86-125; and the line itself with its line feed. They are "judged only as characters".
use Rattle.std.specs.Prelude.{ℕ, ◌+◌, ◌-◌, ◌*◌, cond, List, eqb, take, drop}
use Rattle.paper_cinda.specs.declared.types.CindaNo.{CindaNo}
use Rattle.paper_cinda.specs.declared.types.Piece.{Piece}
use Rattle.paper_cinda.specs.declared.types.Piece.TheVariants.{Whole, Reaction, Quantity, Institute, Reference, Comment}
use Rattle.paper_cinda.specs.declared.types.PieceAnswer.{PieceAnswer}
use Rattle.paper_cinda.specs.Layout.{LINE}
use Rattle.paper_cinda.specs.Apart.{asked_for}

-- its first column, and how many it has
abbrev pub piece_column : Piece → ℕ
piece_column Whole = 1
piece_column Reaction = 9
piece_column Quantity = 24
piece_column Institute = 28
piece_column Reference = 58
piece_column Comment = 86

abbrev pub piece_width : Piece → ℕ
piece_width Whole = LINE
piece_width Reaction = 15
piece_width Quantity = 4
piece_width Institute = 6
piece_width Reference = 22
piece_width Comment = 40

-- where it stands in the caller's lines; a refused one is empty, at the beginning
unfoldable pub piece_asked : List ℕ → CindaNo → Piece → PieceAnswer
piece_asked s n p =
    record {
      answer = asked_for s n;
      first = cond (eqb (asked_for s n).number 0) ((n.0 - 1) * LINE + (piece_column p - 1)) 0;
      length = cond (eqb (asked_for s n).number 0) (piece_width p) 0;
    }

-- the part itself
abbrev pub piece_in : List ℕ → PieceAnswer → List ℕ
piece_in s a = take a.length (drop a.first s)
