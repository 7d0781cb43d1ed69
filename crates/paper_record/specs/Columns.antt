-- The columns of a record (document 01, "Record, line and field"):
--
--   "A record is 80 columns and one line feed (81 bytes)."
use Rattle.std.specs.Prelude.{ℕ, ◌≡◌, Bool, List, eqb, length, get_or, take, drop}

-- w columns, behind the first n
abbrev pub columns_at : ℕ → ℕ → List ℕ → List ℕ
columns_at n w r = take w (drop n r)

-- the bytes are one record
pub record Whole (r : List ℕ) : Type 0 where
  pub long : length r ≡ 81

-- its byte 81 is a line feed
abbrev pub has_line_feed : List ℕ → Bool
has_line_feed r = eqb (get_or r 80 0) 10
