-- Each column of a field is stored once (document 02, M-103):
--
--   "Work out the lengths by arithmetic on digit count and power, then write the eleven bytes once."
--
-- What is stored is a list of pieces, each a run of bytes from a column on, in the order of the code: from the right to
-- the left. Their places and lengths are those of the layout, which is known before the first byte is stored. The
-- promises of `put_exponent`, `put_body` and `put_field` cite the list; that each column is stored once is the law
-- `stored-once` about it.
use Rattle.std.specs.Prelude.{Bool, ◌&&◌, List, [], ◌∷◌, ◌++◌, ◌≡◌, ℕ, ◌+◌, ◌-◌, ◌*◌, ◌^◌, ◌≤◌, leb, ltb, length, Option, Some, None}
use Rattle.paper_number.specs.Grammar.{blanks, digits_text, sign_byte, sign_text}
use Rattle.paper_canonical.specs.declared.types.Exponent.{Exponent}
use Rattle.paper_canonical.specs.declared.types.Layout.{Layout}
use Rattle.paper_canonical.specs.Closed.{digits_n, shift, sign_of}
use Rattle.paper_canonical.specs.Storing.{put, one_if, layout_columns}

-- ---- the pieces

-- bytes, and how many columns stand before them
pub record Piece : Type 0 where
  pub at : ℕ
  pub text : List ℕ

abbrev pub piece : ℕ → List ℕ → Piece
piece at text = record { at = at; text = text }

-- the digits of an exponent and its sign; without an exponent none
abbrev pub exponent_pieces : ℕ → Option Exponent → List Piece
exponent_pieces at (Some e) =
    piece (at + 1) (digits_text (digits_n e.long e.size)) ∷ piece at (sign_byte e.below ∷ []) ∷ []
exponent_pieces at None = []

-- the digits behind the point, the point, and the digits before it
abbrev pub body_pieces : ℕ → ℕ → ℕ → ℕ → List Piece
body_pieces at whole part v =
    piece (at + (whole + 1)) (digits_text (digits_n part v))
    ∷ piece (at + whole) (46 ∷ [])
    ∷ piece at (digits_text (digits_n whole (shift part v)))
    ∷ []

-- the sign, if there is one, and the blanks before it
abbrev pub front_pieces : ℕ → Bool → List Piece
front_pieces lead negative = piece lead (sign_text (sign_of negative)) ∷ piece 0 (blanks lead) ∷ []

-- all of them, `lead` blanks in front
abbrev pub pieces_from : ℕ → Bool → ℕ → Layout → List Piece
pieces_from lead negative c p =
    exponent_pieces (lead + one_if negative 1 + (p.whole + (1 + p.part))) p.exponent
    ++ (body_pieces (lead + one_if negative 1) p.whole p.part (c * 10 ^ p.zeros) ++ front_pieces lead negative)

-- those of a layout in w columns
unfoldable pub pieces : ℕ → Bool → ℕ → Layout → List Piece
pieces w negative c p = pieces_from (w - layout_columns negative p) negative c p

-- what a buffer holds behind them
unfoldable pub stored : List ℕ → List Piece → List ℕ
stored l [] = l
stored l (q ∷ qs) = stored (put l q.at q.text) qs

-- ---- once

-- how many of the pieces lie over the column i
unfoldable pub times : List Piece → ℕ → ℕ
times [] i = 0
times (q ∷ qs) i = one_if (leb q.at i && ltb i (q.at + length q.text)) 1 + times qs i

-- they fill the columns and do not overlap: over each of the w columns lies one piece, and none over any other
abbrev pub StoredOnce : Type 0
StoredOnce =
    (w : ℕ) (negative : Bool) (c : ℕ) (p : Layout) → layout_columns negative p ≤ w
    → (i : ℕ) → times (pieces w negative c p) i ≡ one_if (ltb i w) 1
