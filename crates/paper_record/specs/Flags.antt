-- Flags (document 02, M-105): the headings that ask for one, and a code as a text record writes it.
--
--   "Document 001, VI.5 says numbers under a FLAG heading must be repeated as codes under the keyword FLAG. A code is an
--   opening parenthesis in column 12, digits, a point, a closing parenthesis"
--
-- That `is_code` and `code_number` say the same of columns as the plain `Code` of PlainFlags is the law `code-exactly`.
use Rattle.std.specs.Prelude.{ℕ, ◌+◌, ◌-◌, Bool, not, ◌&&◌, ◌||◌, List, eqb, get_or}
use Prim.Native.Char.{code}
use Rattle.laws.specs.Search.{first}
use Rattle.laws.specs.Members.{list_of}
use Rattle.paper_number.specs.Grammar.{num}
use Rattle.paper_record.specs.Text.{text, is_digit}
use Rattle.paper_record.specs.Word.{equal_to}

-- ---- words of ten columns, whatever stands in the eleventh

-- the keyword FLAG, and a heading with that word
unfoldable pub is_flag : List ℕ → Bool
is_flag f = equal_to 10 f (text "FLAG      ")

unfoldable pub is_decay_flag : List ℕ → Bool
is_decay_flag f = equal_to 10 f (text "DECAY-FLAG")

-- "A non-blank FLAG or DECAY-FLAG value": a heading over such values
unfoldable pub is_flag_heading : List ℕ → Bool
is_flag_heading f = is_flag f || is_decay_flag f

-- ---- a code, from column 12 on: x are the columns 12 to 66 of a text record

-- how many digits stand behind its first column
abbrev pub digit_behind : List ℕ → ℕ → Bool
digit_behind x j = is_digit (get_or x (j + 1) 0)

unfoldable pub code_digits : List ℕ → ℕ
code_digits x = first (λ j. not (digit_behind x j)) 0 54

-- "an opening parenthesis in column 12, digits, a point, a closing parenthesis"; what follows is text
unfoldable pub is_code : List ℕ → Bool
is_code x =
    eqb (get_or x 0 0) (code "(")
    && (not (eqb (code_digits x) 0)
    && (eqb (get_or x (code_digits x + 1) 0) (code ".") && eqb (get_or x (code_digits x + 2) 0) (code ")")))

-- the number that the digits make; it may pass 64 bits
abbrev pub code_digit : List ℕ → ℕ → ℕ
code_digit x j = get_or x (j + 1) 0 - 48

unfoldable pub code_number : List ℕ → ℕ
code_number x = num (list_of (code_digit x) 0 (code_digits x))
