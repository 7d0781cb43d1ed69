-- The reading of a field, column by column: what the reader computes. That it reads a field to a value exactly when the
-- grammar gives that value is the law `reads-exactly`.
use Rattle.std.specs.Prelude.{Bool, true, false, cond, List, [], ◌∷◌, ℕ, ◌+◌, ◌-◌, ◌*◌, eqb, leb, pos, ◌-ℤ◌, length}
use Rattle.paper_number.specs.declared.types.Decimal.{Decimal}
use Rattle.paper_number.specs.declared.types.Reading.{Reading}
use Rattle.paper_number.specs.declared.types.Reading.TheVariants.{Blank, Number, Refused}
use Rattle.paper_number.specs.Value.{zero_decimal, signed_by, value_of}

-- ---- what a byte is in a number field

pub data Kind : Type 0 where
  blank digit point sign mark other : Kind

-- a digit's value, and whether a sign is a minus, stand beside the kind
pub record Column : Type 0 where
  pub kind : Kind
  pub value : ℕ
  pub minus : Bool

abbrev pub column : Kind → ℕ → Bool → Column
column kind value minus = record { kind = kind; value = value; minus = minus }

abbrev pub column_of : ℕ → Column
column_of b =
    cond (eqb b 32) (column blank 0 false)
    (cond (eqb b 43) (column sign 0 false)
    (cond (eqb b 45) (column sign 0 true)
    (cond (eqb b 46) (column point 0 false)
    (cond (eqb b 69) (column mark 0 false)
    (cond (leb 48 b) (cond (leb b 57) (column digit (b - 48) false) (column other 0 false))
    (column other 0 false))))))

-- ---- where the reading stands

-- the digits read so far: the sign, their number, and how many of them stand behind the point
pub record Mantissa : Type 0 where
  pub negative : Bool
  pub number : ℕ
  pub places : ℕ

abbrev pub mantissa : Bool → ℕ → ℕ → Mantissa
mantissa negative number places = record { negative = negative; number = number; places = places }

-- one digit more behind the point
abbrev pub longer : Mantissa → ℕ → Mantissa
longer m d = mantissa m.negative (m.number * 10 + d) (m.places + 1)

pub data Scan : Type 0 where
  Lead : Scan
  Signed : Bool → Scan
  Whole : Bool → ℕ → Scan
  Point : Bool → Scan
  Fraction : Mantissa → Scan
  Gap : Mantissa → Scan
  Mark : Mantissa → Scan
  MarkGap : Mantissa → Scan
  PowerSign : Mantissa → Bool → Scan
  Power : Mantissa → Bool → ℕ → Scan
  Bad : Scan

-- one answer for each kind
abbrev pub by_kind : Kind → Scan → Scan → Scan → Scan → Scan → Scan
by_kind blank b d p s e = b
by_kind digit b d p s e = d
by_kind point b d p s e = p
by_kind sign b d p s e = s
by_kind mark b d p s e = e
by_kind other b d p s e = Bad

-- where it stands one column later: at a blank, a digit, a point, a sign, an E
abbrev pub scan_step : Scan → Column → Scan
scan_step Lead k = by_kind k.kind Lead (Whole false k.value) (Point false) (Signed k.minus) Bad
scan_step (Signed n) k = by_kind k.kind Bad (Whole n k.value) (Point n) Bad Bad
scan_step (Whole n c) k = by_kind k.kind Bad (Whole n (c * 10 + k.value)) (Fraction (mantissa n c 0)) Bad Bad
scan_step (Point n) k = by_kind k.kind Bad (Fraction (mantissa n k.value 1)) Bad Bad Bad
scan_step (Fraction m) k =
    by_kind k.kind (Gap m) (Fraction (longer m k.value)) Bad (PowerSign m k.minus) (Mark m)
scan_step (Gap m) k = by_kind k.kind (Gap m) Bad Bad (PowerSign m k.minus) (Mark m)
scan_step (Mark m) k = by_kind k.kind (MarkGap m) (Power m false k.value) Bad (PowerSign m k.minus) Bad
scan_step (MarkGap m) k = by_kind k.kind (MarkGap m) (Power m false k.value) Bad Bad Bad
scan_step (PowerSign m s) k = by_kind k.kind Bad (Power m s k.value) Bad Bad Bad
scan_step (Power m s e) k = by_kind k.kind Bad (Power m s (e * 10 + k.value)) Bad Bad Bad
scan_step Bad k = Bad

abbrev pub scan_of : Scan → List ℕ → Scan
scan_of s [] = s
scan_of s (b ∷ l) = scan_of (scan_step s (column_of b)) l

-- ---- what is read

-- digits with a written exponent, below zero or not
abbrev pub said_by : Mantissa → Bool → ℕ → Reading
said_by m below e = Number (value_of m.negative m.number (signed_by below e -ℤ pos m.places))

unfoldable pub finish : Scan → Reading
finish Lead = Blank
finish (Signed n) = Refused 15
finish (Whole n c) = Refused 15
finish (Point n) = Refused 15
finish (Fraction m) = said_by m false 0
finish (Gap m) = said_by m false 0
finish (Mark m) = Refused 15
finish (MarkGap m) = Refused 15
finish (PowerSign m s) = Refused 15
finish (Power m s e) = said_by m s e
finish Bad = Refused 15

-- what a field says: "blank is said as blank", "15 malformed"
unfoldable pub read_field : List ℕ → Reading
read_field l = finish (scan_of Lead l)

-- "Number reading: 40 not eleven bytes, 15 malformed"
unfoldable pub read_number : List ℕ → Reading
read_number l = cond (eqb (length l) 11) (read_field l) (Refused 40)

-- ---- document 01's number and values for each answer; "a refused value is blank beside its number"

pub record Answer : Type 0 where
  pub refusal : ℕ
  pub blank : Bool
  pub value : Decimal

abbrev pub answer : Reading → Answer
answer Blank = record { refusal = 0; blank = true; value = zero_decimal }
answer (Number v) = record { refusal = 0; blank = false; value = v }
answer (Refused n) = record { refusal = n; blank = true; value = zero_decimal }
