-- What is claimed of lines written back (document 02, M-113: "writing back puts their canonical field and keeps every other
-- byte"). Each statement is a type; the law that proves it has its name in small letters.
use Rattle.std.specs.Prelude.{ℕ, ◌<◌, ◌≡◌, ◌↔◌, List, [], ◌∷◌, ◌++◌, length, take, drop, get_or}
use Rattle.paper_number.specs.declared.types.Decimal.{Decimal}
use Rattle.paper_number.specs.declared.types.Reading.TheVariants.{Blank, Number}
use Rattle.paper_number.specs.Grammar.{blanks}
use Rattle.paper_canonical.specs.Canonical.{Best}
use Rattle.paper_record.specs.Text.{text}
use Rattle.paper_cinda.specs.declared.types.CindaNo.{CindaNo}
use Rattle.paper_cinda.specs.declared.types.Piece.{Piece}
use Rattle.paper_cinda.specs.declared.types.Piece.TheVariants.{Whole}
use Rattle.paper_cinda.specs.Layout.{energy_at, lines_count, line_at}
use Rattle.paper_cinda.specs.Check.{check_of, GoodLines}
use Rattle.paper_cinda.specs.Apart.{line_of, line_asked}
use Rattle.paper_cinda.specs.Pieces.{piece_asked, piece_in}
use Rattle.paper_cinda.specs.Back.{lines_back}
use Rattle.cinda_back_laws.specs.Alike.{IsEnergy, read_at, Outside, SameLine, SameAsked, SameLines}

-- ---- good: as many bytes, and checked with the same answer

abbrev pub BackLength : Type 0
BackLength = (s : List ℕ) → GoodLines s → length (lines_back s) ≡ length s

abbrev pub BackGood : Type 0
BackGood = (s : List ℕ) → GoodLines s → check_of (lines_back s) ≡ check_of s

-- ---- "keeps every other byte": by its place, and by the line

abbrev pub BackKept : Type 0
BackKept =
    (s : List ℕ) → GoodLines s → (p : ℕ) → p < length s → Outside p → get_or (lines_back s) p 0 ≡ get_or s p 0

abbrev pub BackParts : Type 0
BackParts =
    (s : List ℕ) → GoodLines s → (i : ℕ) → i < lines_count s
    → (take 41 (line_at (lines_back s) i) ≡ take 41 (line_at s i))
    × (drop 55 (line_at (lines_back s) i) ≡ drop 55 (line_at s i))

-- ---- "puts their canonical field": of seven columns; a blank energy stays

abbrev pub BackCanonical : Type 0
BackCanonical =
    (s : List ℕ) → GoodLines s → (i k : ℕ) → i < lines_count s → IsEnergy k → (v : Decimal) → read_at s i k ≡ Number v
    → Best 7 v (energy_at (line_at (lines_back s) i) k)

abbrev pub BackBlank : Type 0
BackBlank =
    (s : List ℕ) → GoodLines s → (i k : ℕ) → i < lines_count s → IsEnergy k → read_at s i k ≡ Blank
    → energy_at (line_at (lines_back s) i) k ≡ energy_at (line_at s i) k

-- ---- read alike: each energy, each line taken apart, each question for a line or a part of it

abbrev pub BackReads : Type 0
BackReads =
    (s : List ℕ) → GoodLines s → (i k : ℕ) → i < lines_count s → IsEnergy k → read_at (lines_back s) i k ≡ read_at s i k

abbrev pub BackLine : Type 0
BackLine =
    (s : List ℕ) → GoodLines s → (i : ℕ) → i < lines_count s
    → SameLine (line_of (line_at (lines_back s) i)) (line_of (line_at s i))

abbrev pub BackAsked : Type 0
BackAsked = (s : List ℕ) → GoodLines s → (n : CindaNo) → SameAsked (line_asked (lines_back s) n) (line_asked s n)

abbrev pub BackPieces : Type 0
BackPieces =
    (s : List ℕ) → GoodLines s → (n : CindaNo) (p : Piece) → piece_asked (lines_back s) n p ≡ piece_asked s n p

-- each text; the line itself has the energies in it
abbrev pub BackTexts : Type 0
BackTexts =
    (s : List ℕ) → GoodLines s → (n : CindaNo) (p : Piece) → (p ≡ Whole → ⊥)
    → piece_in (lines_back s) (piece_asked (lines_back s) n p) ≡ piece_in s (piece_asked s n p)

-- why the count of digits is left out: in a made line 1.0+6 has two digits, and its canonical field, 1.+6, has one
abbrev pub made_line : List ℕ
made_line =
    text "A 92235 N,F            CS  USAORLL198 1E   1.0+6    14.2JPR/C,49,2549          199405Name+ TBL"
    ++ (blanks 31 ++ (10 ∷ []))

abbrev pub made_back : List ℕ
made_back =
    text "A 92235 N,F            CS  USAORLL198 1E    1.+6    14.2JPR/C,49,2549          199405Name+ TBL"
    ++ (blanks 31 ++ (10 ∷ []))

pub record CountLeftOut : Type 0 where
  pub good : GoodLines made_line
  pub back : lines_back made_line ≡ made_back
  pub two : (line_of made_line).least.digits ≡ 2
  pub one : (line_of made_back).least.digits ≡ 1

-- ---- they are their own writing; and when two good files have the same one

abbrev pub BackAgain : Type 0
BackAgain = (s : List ℕ) → GoodLines s → lines_back (lines_back s) ≡ lines_back s

abbrev pub OneBack : Type 0
OneBack = (s t : List ℕ) → GoodLines s → GoodLines t → (lines_back s ≡ lines_back t) ↔ SameLines s t
