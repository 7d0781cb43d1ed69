-- Lines that programs read: their bytes, and the numbers in their columns.
use Rattle.std.specs.Prelude.{ℕ, zero, suc, ◌+◌, ◌-◌, ◌*◌, cond, List, ltb, get_or}

-- the byte at i; past the end of the line it is blank
abbrev pub byte_at : List ℕ → ℕ → ℕ
byte_at line i = get_or line i 32

-- a number with one digit more at its end; 0 where it has nine digits, or the byte is none
unfoldable pub with_digit : ℕ → ℕ → ℕ
with_digit n b = cond (ltb 99999999 n) 0 (cond (ltb b 48) 0 (cond (ltb 57 b) 0 (n * 10 + (b - 48))))

-- the number that n columns end in, counted from `from` on
unfoldable pub number_over : List ℕ → ℕ → ℕ → ℕ
number_over line from zero = 0
number_over line from (suc n) = with_digit (number_over line from n) (byte_at line (from + n))
