-- Words, and columns that are blank or equal (document 01, "Record, line and field").
use Rattle.std.specs.Prelude.{ℕ, ◌+◌, ◌-◌, ◌*◌, Bool, not, ◌&&◌, List, eqb, get_or}
use Rattle.laws.specs.Search.{first}
use Rattle.paper_record.specs.Text.{is_blank}

-- ---- columns that are blank or filled, and columns compared

abbrev pub blank_at : List ℕ → ℕ → Bool
blank_at f i = is_blank (get_or f i 0)

abbrev pub filled_at : List ℕ → ℕ → Bool
filled_at f i = not (blank_at f i)

-- the first filled one of the columns from i up to w, or w
abbrev pub filled_from : ℕ → List ℕ → ℕ → ℕ
filled_from w f i = first (filled_at f) i (w - i)

-- the first w columns are blank
unfoldable pub blank_to : ℕ → List ℕ → Bool
blank_to w f = eqb (filled_from w f 0) w

abbrev pub differ_at : List ℕ → List ℕ → ℕ → Bool
differ_at a b i = not (eqb (get_or a i 0) (get_or b i 0))

-- the first w columns of both are equal
unfoldable pub equal_to : ℕ → List ℕ → List ℕ → Bool
equal_to w a b = eqb (first (differ_at a b) 0 w) w

-- eight columns as one number: equal columns have equal numbers (the law `eight-equal`)
abbrev pub four_at : List ℕ → ℕ → ℕ
four_at part at =
    (get_or part at 0 * 256 + get_or part (at + 1) 0) * 65536 + (get_or part (at + 2) 0 * 256 + get_or part (at + 3) 0)

unfoldable pub eight_at : List ℕ → ℕ → ℕ
eight_at part at = four_at part at * 4294967296 + four_at part (at + 4)

-- ---- "A word starts in the first column of its place, has no blank inside and is followed by blanks only."

-- how many columns stand before the first blank, of a place of w columns
abbrev pub word_end : ℕ → List ℕ → ℕ
word_end w f = first (blank_at f) 0 w

unfoldable pub is_word : ℕ → List ℕ → Bool
is_word w f = not (eqb (word_end w f) 0) && eqb (filled_from w f (word_end w f)) w

-- ---- the place of a pointer

-- the eleventh column of a field or of a BIB record
abbrev pub pointer_of : List ℕ → ℕ
pointer_of f = get_or f 10 0
