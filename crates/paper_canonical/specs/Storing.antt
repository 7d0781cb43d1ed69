-- What the parts of the writer work out and store.
use Rattle.std.specs.Prelude.{Bool, true, false, List, ◌∷◌, ◌++◌, ℕ, zero, suc, ◌+◌, ◌-◌, ◌*◌, ◌/◌, ◌%◌, ◌^◌, ◌<◌, ◌≤◌, length, take, drop, set, Option, Some, None}
use Rattle.paper_number.specs.declared.types.Decimal.{Decimal}
use Rattle.paper_number.specs.Grammar.{blanks, digits_text, write}
use Rattle.paper_canonical.specs.declared.types.Exponent.{Exponent}
use Rattle.paper_canonical.specs.declared.types.Layout.{Layout}
use Rattle.paper_canonical.specs.declared.types.Prepared.{Prepared}
use Rattle.paper_canonical.specs.Closed.{digits_n, shift, layout_of, laid_out}
use Rattle.paper_number.specs.Count.{count}

-- all that the closed form of a value takes
abbrev pub prepared_of : Decimal → Prepared
prepared_of v =
    record {
      negative = v.negative;
      coefficient = v.coefficient;
      layout = layout_of (count v.coefficient) v.power;
    }

-- ---- columns

abbrev pub one_if : Bool → ℕ → ℕ
one_if true n = n
one_if false n = 0

-- how many an exponent takes, with its sign
abbrev pub exponent_columns : Option Exponent → ℕ
exponent_columns (Some e) = 1 + e.long
exponent_columns None = 0

-- how many a layout takes
unfoldable pub layout_columns : Bool → Layout → ℕ
layout_columns negative p = one_if negative 1 + (p.whole + (1 + (p.part + exponent_columns p.exponent)))

-- what the code's numbers bear: a layout of few columns, and a number that its digits hold
pub record Sound (c : ℕ) (p : Layout) : Type 0 where
  pub whole : p.whole ≤ 100
  pub part : p.part ≤ 100
  pub zeros : p.zeros ≤ 2
  pub exponent : exponent_columns p.exponent ≤ 21
  pub number : c * 10 ^ p.zeros < 10 ^ (p.whole + p.part)

-- the same where the layout fits in w columns: the number fits in 64 bits
pub record ReadyLayout (negative : Bool) (c : ℕ) (p : Layout) (w : ℕ) : Type 0 where
  pub fits : layout_columns negative p ≤ w
  pub sound : Sound c p
  pub small : c * 10 ^ p.zeros < 2 ^ 64

-- ---- bytes

-- l with x in the place from `at`
unfoldable pub put : List ℕ → ℕ → List ℕ → List ℕ
put l at x = take at l ++ (x ++ drop (at + length x) l)

-- the digits of v, the last `part` of them behind the point
abbrev pub body_text : ℕ → ℕ → ℕ → List ℕ
body_text whole part v = digits_text (digits_n whole (shift part v)) ++ (46 ∷ digits_text (digits_n part v))

-- a layout's field, right-adjusted in w columns
abbrev pub field_text : ℕ → Bool → ℕ → Layout → List ℕ
field_text w negative c p = blanks (w - layout_columns negative p) ++ write (laid_out negative c p)

-- the last n digits of v put in from the right
unfoldable pub put_digits : List ℕ → ℕ → ℕ → ℕ → List ℕ
put_digits l at zero v = l
put_digits l at (suc n) v = put_digits (set l (at + n) (48 + v % 10)) at n (v / 10)
