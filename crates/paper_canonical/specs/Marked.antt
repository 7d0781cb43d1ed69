-- The numbers that document 01 marks to be proved: one table, one statement, computed.
--
--   "Marked to be proved, this paragraph (right-adjusted unless shown): `0.14` (14,-2) `.14`; `1.45-1` (145,-3) `.145`;
--   `1.40 E 00` (14,-1) `1.4`; `1000.` (1,3) `1.+3`; `100.` (1,2) `100.`; `1.-3` (1,-3) `.001`; `1.+100` (1,100)
--   `10.+99`; `-.0` zero, `0.`; `.12345678-9` and `.1-99999999` are their own. Malformed: `14`, `.`, `+ 1.`, `1.4-1`
--   with a blank in column 11. Writing 12345678901 is 41; so is 1 with power 100,000,000."
use Rattle.std.specs.Prelude.{◌≡◌, refl, false, List, [], ◌∷◌, ◌++◌, map, ℕ, ◌-◌, length, replicate, ℤ, pos, neg_ℤ}
use Prim.Native.Char.{code}
use Prim.Native.String as S
use Prim.Native.String.{String}
use Rattle.paper_number.specs.declared.types.Reading.{Reading}
use Rattle.paper_number.specs.declared.types.Reading.TheVariants as R
use Rattle.paper_number.specs.Grammar.{blanks, write}
use Rattle.paper_number.specs.Value.{decimal, trim_from, trim, value_of}
use Rattle.paper_number.specs.Reading.{finish, read_field, read_number}
use Rattle.paper_canonical.specs.Closed.{digits_n, shift, layout_up, layout_down, laid_out, shortest}
use Rattle.paper_number.specs.Count.{count_from, count}
use Rattle.paper_canonical.specs.Closed.{canonical_text, canonical_field}
use Rattle.paper_canonical.specs.Writing.{answered, stored_field, written, bytes, refusal_number}

-- ---- texts

abbrev pub characters : String → List ℕ
characters S.[] = []
characters (S.◌∷◌ c s) = code c ∷ characters s

-- right-adjusted in eleven columns
abbrev pub right : String → List ℕ
right s = blanks (11 - length (characters s)) ++ characters s

-- a buffer of eleven bytes, to be written into
abbrev buffer : List ℕ
buffer = replicate 11 35

-- ---- the rows, and what they say

pub data MarkedRow : Type 0 where
  reads : String → ℕ → ℤ → String → MarkedRow
  malformed : String → MarkedRow
  unwritable : ℕ → ℤ → MarkedRow

pub data Outcome : Type 0 where
  read : Reading → Outcome
  -- the number of the answer, and what the buffer then holds
  wrote : ℕ → List ℕ → Outcome

-- the field reads to the coefficient and the power, and these are written as the canonical field
abbrev pub said : MarkedRow → List Outcome
said (reads t c p u) = read (R.Number (decimal false c p)) ∷ wrote 0 (right u) ∷ []
said (malformed t) = read (R.Refused 15) ∷ []
said (unwritable c p) = wrote 41 buffer ∷ []

-- what the definitions give
abbrev pub found : MarkedRow → List Outcome
found (reads t c p u) =
    read (read_number (right t))
    ∷ wrote (refusal_number (written buffer (value_of false c p))) (bytes buffer (value_of false c p))
    ∷ []
found (malformed t) = read (read_number (right t)) ∷ []
found (unwritable c p) = wrote (refusal_number (written buffer (value_of false c p))) (bytes buffer (value_of false c p)) ∷ []

-- ---- the table

abbrev pub marked : List MarkedRow
marked =
    reads "0.14" 14 (neg_ℤ (pos 2)) ".14"
    ∷ reads "1.45-1" 145 (neg_ℤ (pos 3)) ".145"
    ∷ reads "1.40 E 00" 14 (neg_ℤ (pos 1)) "1.4"
    ∷ reads "1000." 1 (pos 3) "1.+3"
    ∷ reads "100." 1 (pos 2) "100."
    ∷ reads "1.-3" 1 (neg_ℤ (pos 3)) ".001"
    ∷ reads "1.+100" 1 (pos 100) "10.+99"
    ∷ reads "-.0" 0 (pos 0) "0."
    ∷ reads ".12345678-9" 12345678 (neg_ℤ (pos 17)) ".12345678-9"
    ∷ reads ".1-99999999" 1 (neg_ℤ (pos 100000000)) ".1-99999999"
    ∷ malformed "14"
    ∷ malformed "."
    ∷ malformed "+ 1."
    ∷ malformed "1.4-1 "
    ∷ unwritable 12345678901 (pos 0)
    ∷ unwritable 1 (pos 100000000)
    ∷ []

-- the one statement: the definitions give what the paper says, row by row
abbrev pub MarkedRight : Type 0
MarkedRight = map found marked ≡ map said marked

pub marked_right : MarkedRight
unfolding finish read_field read_number trim_from trim value_of write
    count_from count digits_n shift layout_up layout_down laid_out shortest canonical_text canonical_field
    answered stored_field written bytes
marked_right = refl
