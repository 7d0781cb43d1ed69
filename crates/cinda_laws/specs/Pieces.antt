-- The parts of a line, in the columns of document 000, ch. 10: "reaction 9-23 | quantity 24-27 | institute 28-33 | [..]
-- 58-79 reference code | [..] 86-125 comment". What is answered to the question for one is said, and nothing else is.
use Rattle.std.specs.Prelude.{ℕ, ◌+◌, ◌-◌, ◌*◌, ◌≤◌, ◌≡◌, List, [], length}
use Rattle.paper_cinda.specs.declared.types.CindaNo.{CindaNo}
use Rattle.paper_cinda.specs.declared.types.LinesAnswer.{LinesAnswer}
use Rattle.paper_cinda.specs.declared.types.Piece.{Piece}
use Rattle.paper_cinda.specs.declared.types.Piece.TheVariants.{Whole, Reaction, Quantity, Institute, Reference, Comment}
use Rattle.paper_cinda.specs.declared.types.PieceAnswer.{PieceAnswer}
use Rattle.paper_cinda.specs.Pieces.{piece_asked, piece_in}
use Rattle.cinda_laws.specs.Plain.{in_columns}
use Rattle.cinda_laws.specs.Said.{the_line, told, LinesSaid}
use Rattle.cinda_laws.specs.Apart.{HasLine}

-- its first column and its last; column 126 is the line feed
pub data Spans : Piece → ℕ → ℕ → Type 0 where
  whole : Spans Whole 1 126
  reaction : Spans Reaction 9 23
  quantity : Spans Quantity 24 27
  institute : Spans Institute 28 33
  reference : Spans Reference 58 79
  comment : Spans Comment 86 125

abbrev pub part_answered : LinesAnswer → ℕ → ℕ → PieceAnswer
part_answered a first length = record { answer = a; first = first; length = length }

-- each line before it has 126 bytes
pub data PieceAnswered (s : List ℕ) (n : CindaNo) (p : Piece) : PieceAnswer → Type 0 where
  lines_refused : (a : LinesAnswer) → LinesSaid s a → (a.number ≡ 0 → ⊥) → PieceAnswered s n p (part_answered a 0 0)
  no_such_line : LinesSaid s (told 0 0 0) → (HasLine s n → ⊥) → PieceAnswered s n p (part_answered (told 34 0 0) 0 0)
  a_piece : (first last : ℕ) → LinesSaid s (told 0 0 0) → HasLine s n → Spans p first last
      → PieceAnswered s n p (part_answered (told 0 0 0) ((n.0 - 1) * 126 + (first - 1)) (last + 1 - first))

abbrev pub PieceSays : Type 0
PieceSays = (s : List ℕ) (n : CindaNo) (p : Piece) → PieceAnswered s n p (piece_asked s n p)

abbrev pub PieceAlone : Type 0
PieceAlone = (s : List ℕ) (n : CindaNo) (p : Piece) (a : PieceAnswer) → PieceAnswered s n p a → a ≡ piece_asked s n p

-- where it is answered, its bytes are these columns of the line
abbrev pub PieceColumns : Type 0
PieceColumns =
    (s : List ℕ) (n : CindaNo) (p : Piece) (first last : ℕ) → (piece_asked s n p).answer.number ≡ 0 → Spans p first last
    → piece_in s (piece_asked s n p) ≡ in_columns (the_line s (n.0 - 1)) first (last + 1 - first)

-- and a refused one has none
abbrev pub PieceRefused : Type 0
PieceRefused =
    (s : List ℕ) (n : CindaNo) (p : Piece) → ((piece_asked s n p).answer.number ≡ 0 → ⊥)
    → piece_in s (piece_asked s n p) ≡ []

-- it lies inside the lines, also where it is refused
abbrev pub PieceInside : Type 0
PieceInside =
    (s : List ℕ) (n : CindaNo) (p : Piece) → (piece_asked s n p).first + (piece_asked s n p).length ≤ length s
