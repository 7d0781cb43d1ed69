-- The characters of a type (document 02, M-106), which the grammar and the reading both name.
use Rattle.std.specs.Prelude.{ℕ, Bool, true, cond, eqb}
use Rattle.paper_record.specs.Text.{is_digit, is_capital}

-- "A type is capitals, digits, + and -"
unfoldable pub is_type : ℕ → Bool
is_type b = cond (is_capital b) true (cond (is_digit b) true (cond (eqb b 43) true (eqb b 45)))
