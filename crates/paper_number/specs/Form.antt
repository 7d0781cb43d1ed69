-- What form a field has, and the two tables by which it is told with no arithmetic: the kind of each byte, and where
-- each kind leads from each place of the reading. What the reading holds at a place is left out.
use Rattle.std.specs.Prelude.{◌≡◌, false, cond, List, [], ◌∷◌, ℕ, ◌/◌, ◌%◌, eqb, get_or}
use Rattle.laws.specs.Members.{list_of}
use Rattle.paper_number.specs.declared.types.Reading.{Reading}
use Rattle.paper_number.specs.declared.types.Reading.TheVariants as R
use Rattle.paper_number.specs.declared.types.Form.{Form}
use Rattle.paper_number.specs.declared.types.Form.TheVariants as F
use Rattle.paper_number.specs.Reading.{Kind, blank, digit, point, sign, mark, other, column, column_of, Scan}
use Rattle.paper_number.specs.Reading.{Lead, Signed, Whole, Point, Fraction, Gap, Mark, MarkGap, PowerSign, Power, Bad}
use Rattle.paper_number.specs.Reading.{Mantissa, mantissa, scan_step}

-- the form of what is read
abbrev pub form_of : Reading → Form
form_of R.Blank = F.Blank
form_of (R.Number v) = F.Number
form_of (R.Refused n) = F.Malformed

-- document 01's number for each form
abbrev pub form_refusal : Form → ℕ
form_refusal F.Blank = 0
form_refusal F.Number = 0
form_refusal F.Malformed = 15

-- ---- the kinds and the places by number

abbrev pub kind_number : Kind → ℕ
kind_number blank = 0
kind_number digit = 1
kind_number point = 2
kind_number sign = 3
kind_number mark = 4
kind_number other = 5

abbrev pub kind_at : ℕ → Kind
kind_at k = get_or (blank ∷ digit ∷ point ∷ sign ∷ mark ∷ []) k other

abbrev pub place_number : Scan → ℕ
place_number Lead = 0
place_number (Signed n) = 1
place_number (Whole n c) = 2
place_number (Point n) = 3
place_number (Fraction m) = 4
place_number (Gap m) = 5
place_number (Mark m) = 6
place_number (MarkGap m) = 7
place_number (PowerSign m s) = 8
place_number (Power m s e) = 9
place_number Bad = 10

abbrev pub no_mantissa : Mantissa
no_mantissa = mantissa false 0 0

abbrev pub place_at : ℕ → Scan
place_at k =
    get_or
    (Lead ∷ Signed false ∷ Whole false 0 ∷ Point false ∷ Fraction no_mantissa ∷ Gap no_mantissa ∷ Mark no_mantissa
    ∷ MarkGap no_mantissa
    ∷ PowerSign no_mantissa false ∷ Power no_mantissa false 0 ∷ [])
    k Bad

-- ---- the tables

-- the kind of each of the 256 byte values
unfoldable pub kind_table : List ℕ
kind_table = list_of (λ b. kind_number (column_of b).kind) 0 256

-- eight entries for each of the 11 places, of which the kinds take six
unfoldable pub next_table : List ℕ
next_table = list_of (λ k. place_number (scan_step (place_at (k / 8)) (column (kind_at (k % 8)) 0 false))) 0 88

-- what a caller lends
pub record Tables (kinds nexts : List ℕ) : Type 0 where
  pub kinds_right : kinds ≡ kind_table
  pub nexts_right : nexts ≡ next_table

-- the form of a field whose reading ends at a place
abbrev pub form_at_end : ℕ → Form
form_at_end place =
    cond (eqb place 0) F.Blank
    (cond (eqb place 4) F.Number
    (cond (eqb place 5) F.Number
    (cond (eqb place 9) F.Number
    F.Malformed)))
