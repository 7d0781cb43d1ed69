-- What a number field says (document 01, "Number fields"):
--
--   "The value is (negative, coefficient, power of ten), the coefficient not divisible by ten. Zero is (no, 0, 0),
--   however signed."
--
-- The first half says it by an equation, the second how it is worked out; that both agree is the law `value_found`.
use Rattle.std.specs.Prelude.{◌≡◌, Bool, true, false, cond, List, ◌++◌, ◌⊎◌, ℕ, zero, suc, ◌+◌, ◌-◌, ◌*◌, ◌/◌, ◌%◌, ◌^◌, ◌<◌, eqb, ℤ, pos, neg_ℤ, ◌+ℤ◌, ◌-ℤ◌, length, ◌≤ℤ◌, ◌<ℤ◌}
use Rattle.paper_number.specs.declared.types.Decimal.{Decimal}
use Rattle.paper_number.specs.declared.types.Reading.{Reading}
use Rattle.paper_number.specs.declared.types.Reading.TheVariants.{Blank, Number, Refused}
use Rattle.paper_number.specs.declared.types.Trim.{Trim}
use Rattle.paper_number.specs.Grammar.{blanks, num, minus, below, Tail, plain, power, Field, Spells}

abbrev pub decimal : Bool → ℕ → ℤ → Decimal
decimal n c p = record { negative = n; coefficient = c; power = p }

abbrev pub zero_decimal : Decimal
zero_decimal = decimal false 0 (pos 0)

-- ---- what it is

-- a times ten to the p is b times ten to the q: for an m and an n with p - q = m - n, a * 10 ^ m = b * 10 ^ n
pub record SameSize (a : ℕ) (p : ℤ) (b : ℕ) (q : ℤ) : Type 0 where
  pub m : ℕ
  pub n : ℕ
  pub powers : p +ℤ pos n ≡ q +ℤ pos m
  pub numbers : a * 10 ^ m ≡ b * 10 ^ n

-- "the coefficient not divisible by ten. Zero is (no, 0, 0)"
abbrev pub Normal : Decimal → Type 0
Normal v = (v.coefficient % 10 ≡ 0 → ⊥) ⊎ (v ≡ zero_decimal)

-- v is the value of a sign, a whole number and a power of ten
pub record Value (negative : Bool) (a : ℕ) (p : ℤ) (v : Decimal) : Type 0 where
  pub size : SameSize a p v.coefficient v.power
  pub sign : (v.coefficient ≡ 0 → ⊥) → v.negative ≡ negative
  pub normal : Normal v

-- the exponent that is written, 0 where none is
abbrev pub signed_by : Bool → ℕ → ℤ
signed_by false e = pos e
signed_by true e = neg_ℤ (pos e)

abbrev pub exponent_of : Tail → ℤ
exponent_of (plain k) = pos 0
exponent_of (power o ds) = signed_by (below o) (num ds)

-- all digits of a field as one whole number, and the power of ten that goes with it
abbrev pub digits_of : Field → ℕ
digits_of f = num (f.whole ++ f.part)

abbrev pub power_of : Field → ℤ
power_of f = exponent_of f.tail -ℤ pos (length f.part)

abbrev pub Means : Field → Decimal → Type 0
Means f v = Value (minus f.sign) (digits_of f) (power_of f) v

-- the columns l read to v: they are a field, and v is its value
pub record Reads (l : List ℕ) (v : Decimal) : Type 0 where
  pub field : Field
  pub spells : Spells l field
  pub means : Means field v

-- what the columns l say: "blank is said as blank"; a number; "15 malformed" where they are neither
pub data Says (l : List ℕ) : Reading → Type 0 where
  blank : l ≡ blanks (length l) → Says l Blank
  number : {v : Decimal} → Reads l v → Says l (Number v)
  malformed : (l ≡ blanks (length l) → ⊥) → ((v : Decimal) → Reads l v → ⊥) → Says l (Refused 15)

-- ---- how it is worked out

-- a number without its last zeros, and how many those were; `ends` says whether the number ends in a zero. A number
-- has fewer zeros than it is large.
unfoldable pub trim_from : ℕ → Bool → ℕ → ℕ → Trim
trim_from zero ends c z = record { number = c; zeros = z }
trim_from (suc n) false c z = record { number = c; zeros = z }
trim_from (suc n) true c z = trim_from n (eqb (c / 10 % 10) 0) (c / 10) (z + 1)

unfoldable pub trim : ℕ → Trim
trim c = trim_from c (eqb (c % 10) 0) c 0

-- the last zeros go to the power
unfoldable pub value_of : Bool → ℕ → ℤ → Decimal
value_of negative a p =
    cond (eqb a 0) zero_decimal
    (decimal negative (trim a).number (p +ℤ pos (trim a).zeros))

abbrev pub meaning : Field → Decimal
meaning f = value_of (minus f.sign) (digits_of f) (power_of f)

-- ---- how large it can be

-- v is no larger than w columns allow: one goes to the point, and two more to an exponent's sign and a digit before it
pub record WithinColumns (w : ℕ) (v : Decimal) : Type 0 where
  pub coefficient : v.coefficient < 10 ^ (w - 1)
  pub least : neg_ℤ (pos (10 ^ (w - 3))) ≤ℤ v.power
  pub most : v.power <ℤ pos (10 ^ (w - 3))
