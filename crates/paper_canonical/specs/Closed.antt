-- The canonical field in closed form: by arithmetic on the count of the coefficient's digits and the power. That it
-- wins is the law `closed-form`.
use Rattle.std.specs.Prelude.{Bool, true, false, cond, List, [], ◌∷◌, ◌++◌, ℕ, zero, suc, ◌+◌, ◌-◌, ◌*◌, ◌/◌, ◌%◌, ◌^◌, leb, eqb, length, Option, Some, None, ℤ, pos, negsuc}
use Rattle.paper_number.specs.declared.types.Decimal.{Decimal}
use Rattle.paper_number.specs.Grammar.{blanks, Sign, unsigned, signed, by_sign, Tail, plain, power, Field, write}
use Rattle.paper_number.specs.Count.{count}
use Rattle.paper_canonical.specs.declared.types.Exponent.{Exponent}
use Rattle.paper_canonical.specs.declared.types.Layout.{Layout}

-- ---- digits of a number

-- its last n digits
unfoldable pub digits_n : ℕ → ℕ → List ℕ
digits_n zero v = []
digits_n (suc n) v = digits_n n (v / 10) ++ (v % 10 ∷ [])

-- what stands before them
unfoldable pub shift : ℕ → ℕ → ℕ
shift zero v = v
shift (suc n) v = shift n (v / 10)

-- ---- how many digits stand where, and the exponent

abbrev pub plain_layout : ℕ → ℕ → ℕ → Layout
plain_layout whole part zeros =
    record { whole = whole; part = part; zeros = zeros; exponent = None }

abbrev pub raised_by : ℕ → ℕ → ℕ → Bool → ℕ → Layout
raised_by whole part zeros below exponent =
    record {
      whole = whole;
      part = part;
      zeros = zeros;
      exponent = Some (record { below = below; long = count exponent; size = exponent });
    }

-- d digits and a power p of zero or more: two zeros are no longer than an exponent (`100.`), three are; where p is a
-- power of ten, one zero shortens the exponent (`10.+99`)
unfoldable pub layout_up : ℕ → ℕ → Layout
layout_up d p =
    cond (leb p 2) (plain_layout (d + p) 0 p)
    (cond (eqb p (10 ^ (count p - 1))) (raised_by (d + 1) 0 1 false (p - 1))
    (raised_by d 0 0 false p))

-- where the power is -t and an exponent is written: the exponent has as many digits as t - d, the least that it can be,
-- so it is at most 10 ^ count (t - d) - 1, and the rest of t stands behind the point (`.1-9`, `1.-11`)
abbrev pub places : ℕ → ℕ → ℕ
places d t = t - (10 ^ count (t - d) - 1)

-- d digits and a power -t: the point among the digits, or before them, or at most two zeros between (`.001`)
unfoldable pub layout_down : ℕ → ℕ → Layout
layout_down d t =
    cond (leb t d) (plain_layout (d - t) t 0)
    (cond (leb t (d + 2)) (plain_layout 0 t 0)
    (raised_by (d - places d t) (places d t) 0 true (t - places d t)))

abbrev pub layout_of : ℕ → ℤ → Layout
layout_of d (pos p) = layout_up d p
layout_of d (negsuc q) = layout_down d (suc q)

-- ---- the text and the field

abbrev pub sign_of : Bool → Sign
sign_of false = unsigned
sign_of true = signed true

abbrev pub tail_of : Option Exponent → Tail
tail_of (Some e) = power (by_sign 0 e.below) (digits_n e.long e.size)
tail_of None = plain 0

-- the coefficient c with its zeros behind it, laid out
unfoldable pub laid_out : Bool → ℕ → Layout → Field
laid_out negative c p =
    record {
      lead = 0;
      sign = sign_of negative;
      whole = digits_n p.whole (shift p.part (c * 10 ^ p.zeros));
      part = digits_n p.part (c * 10 ^ p.zeros);
      tail = tail_of p.exponent;
    }

unfoldable pub shortest : Decimal → Field
shortest v = laid_out v.negative v.coefficient (layout_of (count v.coefficient) v.power)

-- its characters: two or more, none of them blank
unfoldable pub canonical_text : Decimal → List ℕ
canonical_text v = write (shortest v)

-- the same, right-adjusted in w columns; it is a field of w columns where the text has no more
unfoldable pub canonical_field : ℕ → Decimal → List ℕ
canonical_field w v = blanks (w - length (canonical_text v)) ++ canonical_text v
