-- What the functions of the reading promise each other, one for each place where the reading can stand.
use Rattle.std.specs.Prelude.{◌≡◌, Bool, false, cond, List, ℕ, ◌+◌, ◌-◌, ◌*◌, ◌<◌, ◌≤◌, ◌^◌, eqb, leb, length, get_or, drop, Option, Some, None, IfSome}
use Rattle.paper_number.specs.declared.types.Front.{Front}
use Rattle.paper_number.specs.declared.types.Exponent.{Exponent}
use Rattle.paper_number.specs.declared.types.Spelt.{Spelt}
use Rattle.paper_number.specs.declared.types.Spelt.TheVariants as S
use Rattle.paper_number.specs.Reading.{blank, digit, column, column_of, Mantissa, mantissa, Scan, Lead, Signed, Whole, Point}
use Rattle.paper_number.specs.Reading.{Fraction, Gap, Mark, MarkGap, PowerSign, Power, Bad, scan_step, scan_of}

-- ---- what the columns spell, where the reading ends: a number by its sign, its digits, how many of them stand behind the
-- point, and its exponent, if one is written; blanks; or nothing. What they say and how many digits were written both
-- follow from it.

abbrev pub exponent : Bool → ℕ → Exponent
exponent below size = record { below = below; size = size }

abbrev pub spelt_by : Mantissa → Option Exponent → Spelt
spelt_by m x =
    S.Number (record { negative = m.negative; number = m.number; places = m.places; exponent = x })

unfoldable pub spelt_at : Scan → Spelt
spelt_at Lead = S.Blank
spelt_at (Signed n) = S.Malformed
spelt_at (Whole n c) = S.Malformed
spelt_at (Point n) = S.Malformed
spelt_at (Fraction m) = spelt_by m None
spelt_at (Gap m) = spelt_by m None
spelt_at (Mark m) = S.Malformed
spelt_at (MarkGap m) = S.Malformed
spelt_at (PowerSign m s) = S.Malformed
spelt_at (Power m s e) = spelt_by m (Some (exponent s e))
spelt_at Bad = S.Malformed

unfoldable pub spelt : List ℕ → Spelt
spelt s = spelt_at (scan_of Lead s)

-- what is spelt from column i on, where the reading stands at t
abbrev pub read_from : Scan → ℕ → List ℕ → Spelt
read_from t i s = spelt_at (scan_of t (drop i s))

-- i is a column of a field of at most eleven, or its end
pub record Reached (s : List ℕ) (i : ℕ) : Type 0 where
  pub short : length s ≤ 11
  pub inside : i ≤ length s

abbrev pub digital : ℕ → Bool
digital b = cond (leb 48 b) (leb b 57) false

-- the columns of a sign, if one is there
abbrev pub past_sign : ℕ → ℕ
past_sign b = cond (eqb b 45) 1 (cond (eqb b 43) 1 0)

-- ---- what stands in the columns

-- blanks from column i on: r is the first column behind them
pub record Skips (s : List ℕ) (i r : ℕ) : Type 0 where
  pub reads : (t : Scan) → scan_step t (column blank 0 false) ≡ t → read_from t i s ≡ read_from t r s
  pub past : i ≤ r
  pub inside : r ≤ length s
  pub stops : r < length s → get_or s r 0 ≡ 32 → ⊥

-- the digit in column i, if one is there
abbrev pub DigitAt : List ℕ → ℕ → Option ℕ → Type 0
DigitAt s i None = i < length s → digital (get_or s i 0) ≡ false
DigitAt s i (Some d) = (i < length s) × (d ≤ 9) × (column_of (get_or s i 0) ≡ column digit d false)

-- digits from column i on, behind others that say n: r is the first column behind them, and v is what all of them say
pub record Counts (s : List ℕ) (i n r v : ℕ) : Type 0 where
  pub reads : (t : ℕ → ℕ → Scan) → ((k c d : ℕ) → scan_step (t k c) (column digit d false) ≡ t (k + 1) (c * 10 + d))
      → read_from (t 0 n) i s ≡ read_from (t (r - i) v) r s
  pub past : i ≤ r
  pub inside : r ≤ length s
  pub stops : r < length s → digital (get_or s r 0) ≡ false
  pub small : (c : ℕ) → (n + 1) * c ≤ 10 ^ i → (v + 1) * c ≤ 10 ^ r

-- ---- the blanks in front: r is the first column behind them

pub record Leads (s : List ℕ) (r : ℕ) : Type 0 where
  pub reads : spelt s ≡ read_from Lead r s
  pub inside : r ≤ length s
  pub stops : r < length s → get_or s r 0 ≡ 32 → ⊥

-- ---- the digits, up to the point and one more where none stands before it

abbrev pub pointed : List ℕ → Option Front → Bool → Spelt
pointed s None g = S.Malformed
pointed s (Some r) g = read_from (Fraction (mantissa g r.number r.places)) r.at s

pub record Placed (s : List ℕ) (r : Front) : Type 0 where
  pub inside : r.at ≤ length s
  pub number : r.number < 10 ^ r.at
  pub places : r.places ≤ r.at
  pub wide : 2 ≤ r.at

-- from t at column i the reading comes to r, whatever the sign was
pub record Points (s : List ℕ) (i : ℕ) (t : Bool → Scan) (r : Option Front) : Type 0 where
  pub reads : (g : Bool) → read_from (t g) i s ≡ pointed s r g
  pub placed : IfSome r (Placed s)

-- ---- the digits behind the point: r is the first column behind them

pub record Passes (s : List ℕ) (i n p : ℕ) (r : Front) : Type 0 where
  pub reads : (g : Bool) →
      read_from (Fraction (mantissa g n p)) i s ≡ read_from (Gap (mantissa g r.number r.places)) r.at s
  pub past : i ≤ r.at
  pub inside : r.at ≤ length s
  pub number : r.number < 10 ^ r.at
  pub places : r.places ≤ r.at

-- ---- what stands behind the digits

-- eleven columns hold no larger exponent
abbrev pub SmallExponent : Exponent → Type 0
SmallExponent x = x.size < 10 ^ 8

abbrev pub raised_by : Option Exponent → Mantissa → Spelt
raised_by None m = S.Malformed
raised_by (Some x) m = spelt_by m (Some x)

-- from t at column i the reading comes to the exponent r, whatever the digits were
pub record Raises (s : List ℕ) (i : ℕ) (t : Mantissa → Scan) (r : Option Exponent) : Type 0 where
  pub reads : (m : Mantissa) → read_from (t m) i s ≡ raised_by r m
  pub small : IfSome r SmallExponent

abbrev pub tailed_by : Option (Option Exponent) → Mantissa → Spelt
tailed_by None m = S.Malformed
tailed_by (Some x) m = spelt_by m x

-- what is behind the digits is an exponent or none, or fits nothing
pub record Tails (s : List ℕ) (i : ℕ) (r : Option (Option Exponent)) : Type 0 where
  pub reads : (m : Mantissa) → read_from (Gap m) i s ≡ tailed_by r m
  pub small : IfSome r (λ x. IfSome x SmallExponent)
