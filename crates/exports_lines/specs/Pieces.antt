-- The texts of a line as a call gives them: the first byte and the length of the whole line, reaction, quantity, institute,
-- reference and comment, in this order.
use Rattle.std.specs.Prelude.{ℕ, ◌+◌, ◌-◌, List, [], ◌∷◌, ◌++◌}
use Rattle.paper_cinda.specs.declared.types.CindaNo.{CindaNo}
use Rattle.paper_cinda.specs.declared.types.Piece.{Piece}
use Rattle.paper_cinda.specs.declared.types.Piece.TheVariants.{Whole, Reaction, Quantity, Institute, Reference, Comment}
use Rattle.paper_cinda.specs.declared.types.PieceAnswer.{PieceAnswer}
use Rattle.paper_cinda.specs.Apart.{asked_for}
use Rattle.paper_cinda.specs.Pieces.{piece_column, piece_width, piece_asked}
use Rattle.exports_words.specs.Words.{lent_after}

-- ---- what is asked for: each piece as the question for it answers it

abbrev pub place_asked : List ℕ → CindaNo → Piece → List ℕ
place_asked s n p = (piece_asked s n p).first ∷ (piece_asked s n p).length ∷ []

abbrev pub places_asked : List ℕ → CindaNo → List ℕ
places_asked s n =
    place_asked s n Whole
    ++ (place_asked s n Reaction
    ++ (place_asked s n Quantity
    ++ (place_asked s n Institute ++ (place_asked s n Reference ++ place_asked s n Comment))))

unfoldable pub pieces_stored : List ℕ → List ℕ → CindaNo → List ℕ
pieces_stored before s n = lent_after (asked_for s n).number before (places_asked s n)

-- ---- how it is worked out: the lines are judged once, and the other places stand in fixed columns of the whole line. That
-- both agree is the law `places-found`.

abbrev pub place_from : ℕ → Piece → List ℕ
place_from first p = (first + (piece_column p - 1)) ∷ piece_width p ∷ []

abbrev pub places_from : ℕ → List ℕ
places_from first =
    place_from first Whole
    ++ (place_from first Reaction
    ++ (place_from first Quantity
    ++ (place_from first Institute ++ (place_from first Reference ++ place_from first Comment))))

unfoldable pub places_stored : List ℕ → PieceAnswer → List ℕ
places_stored before whole = lent_after whole.answer.number before (places_from whole.first)
