-- Digits as the author wrote them (document 02, M-104):
--
--   "Users take 0.140 as more precise than 0.14. The number reader shall also tell the count of digits from the first
--   non-zero one to the last written (0 for zero): 0.140 gives 3, 100. gives 3, 1.+2 gives 1."
--
-- The first half says it of a field of the grammar, the second how it is worked out; that both agree is the law
-- `digits-exactly`.
use Rattle.std.specs.Prelude.{◌≡◌, cond, List, [], ◌∷◌, ◌++◌, ℕ, ◌<◌, eqb, length, replicate}
use Rattle.paper_number.specs.Grammar.{Field}
use Rattle.paper_number.specs.Reading.{Scan, Lead, Signed, Whole, Point, Fraction, Gap, Mark, MarkGap, PowerSign}
use Rattle.paper_number.specs.Reading.{Power, Bad, scan_of, read_field, read_number}
use Rattle.paper_number.specs.declared.types.FieldRead.{FieldRead}
use Rattle.paper_number.specs.Count.{significant}

-- ---- what it is

-- digits "from the first non-zero one to the last": n of them, behind zeros
pub record CountsFrom (digits : List ℕ) (n : ℕ) : Type 0 where
  pub zeros : ℕ
  pub rest : List ℕ
  pub split : digits ≡ replicate zeros 0 ++ rest
  pub first : (d : ℕ) (others : List ℕ) → rest ≡ d ∷ others → 0 < d
  pub long : n ≡ length rest

-- the digits before and behind the point, and none of the exponent: "1.+2 gives 1"
abbrev pub DigitsWritten : Field → ℕ → Type 0
DigitsWritten f = CountsFrom (f.whole ++ f.part)

-- ---- how it is worked out

-- where the reading ends, all digits are one number, its last zeros among them; what is no number has none
abbrev pub digit_count_at : Scan → ℕ
digit_count_at Lead = 0
digit_count_at (Signed n) = 0
digit_count_at (Whole n c) = 0
digit_count_at (Point n) = 0
digit_count_at (Fraction m) = significant m.number
digit_count_at (Gap m) = significant m.number
digit_count_at (Mark m) = 0
digit_count_at (MarkGap m) = 0
digit_count_at (PowerSign m s) = 0
digit_count_at (Power m s e) = significant m.number
digit_count_at Bad = 0

unfoldable pub digit_count : List ℕ → ℕ
digit_count l = digit_count_at (scan_of Lead l)

-- ---- what the reader tells of a field: what it says, and the count beside it

unfoldable pub field_read : List ℕ → FieldRead
field_read l = record { reading = read_field l; digits = digit_count l }

-- "40 not eleven bytes" has no digits
unfoldable pub number_read : List ℕ → FieldRead
number_read l = record { reading = read_number l; digits = cond (eqb (length l) 11) (digit_count l) 0 }
