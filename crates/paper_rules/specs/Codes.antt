-- The codes of a BIB (document 02, M-105):
--
--   "A code is an opening parenthesis in column 12, digits, a point, a closing parenthesis, under FLAG in this subentry
--   or 001"
use Rattle.std.specs.Prelude.{ℕ, ◌/◌, Bool, true, false, cond, List, [], ◌∷◌, ◌++◌, length}
use Rattle.laws.specs.Blocks.{blocks}
use Rattle.paper_record.specs.Columns.{columns_at}
use Rattle.paper_record.specs.Fields.{field_at}
use Rattle.paper_record.specs.Word.{blank_to}
use Rattle.paper_record.specs.Flags.{is_flag, is_code, code_number}

-- "BIB: columns 1-10 a keyword (word) or blank, .. 12-66 text."
abbrev pub text_of : List ℕ → List ℕ
text_of r = columns_at 11 55 r

-- a record is under FLAG if it has that keyword, or none and the record before it is under FLAG; pointers play no part
abbrev pub under_flag : Bool → List ℕ → Bool
under_flag before r = cond (blank_to 10 (field_at r 0)) before (is_flag (field_at r 0))

-- the code of a record that is under FLAG, if it has one
abbrev pub code_of : Bool → List ℕ → List ℕ
code_of true r = cond (is_code (text_of r)) (code_number (text_of r) ∷ []) []
code_of false r = []

-- those of text records, in order, behind a record that is under FLAG or not
unfoldable pub codes_from : Bool → List (List ℕ) → List ℕ
codes_from before [] = []
codes_from before (r ∷ rs) = code_of (under_flag before r) r ++ codes_from (under_flag before r) rs

-- of a part of text records: before the first there is none
unfoldable pub codes_of : List ℕ → List ℕ
codes_of part = codes_from false (blocks 81 (length part / 81) part)
