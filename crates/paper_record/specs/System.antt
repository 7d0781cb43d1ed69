-- The fields N1 and N2 of system records (document 01, "Nesting and counts").
use Rattle.std.specs.Prelude.{ℕ, zero, suc, ◌+◌, ◌*◌, ◌-◌, Bool, true, false, cond, not, ◌&&◌, ◌||◌, List, eqb, leb, get_or}
use Rattle.std.specs.Prelude.{Option, Some, None}
use Rattle.laws.specs.Search.{first}
use Rattle.paper_record.specs.Text.{within, is_digit, is_capital}
use Rattle.paper_record.specs.Word.{filled_from, blank_to}

-- ---- digits and their number

abbrev pub no_digit_at : List ℕ → ℕ → Bool
no_digit_at f i = not (is_digit (get_or f i 0))

-- the n columns from i are digits
unfoldable pub digits_in : List ℕ → ℕ → ℕ → Bool
digits_in f i n = eqb (first (no_digit_at f) i n) (i + n)

abbrev pub digit_of : ℕ → ℕ
digit_of b = b - 48

-- the number that the n columns from i say, each by its digit
unfoldable pub number_in : List ℕ → ℕ → ℕ → ℕ
number_in f i zero = 0
number_in f i (suc n) = number_in f i n * 10 + digit_of (get_or f (i + n) 0)

-- ---- "A count is blanks, then digits up to the last column."

-- the first filled of w columns, or w
abbrev pub start_of : ℕ → List ℕ → ℕ
start_of w f = filled_from w f 0

-- a whole number in w columns: at least one digit, so all blanks are none; None for a field that is none
unfoldable pub integer_of : ℕ → List ℕ → Option ℕ
integer_of w f =
    cond (eqb (start_of w f) w) None
    (cond (digits_in f (start_of w f) (w - start_of w f)) (Some (number_in f (start_of w f) (w - start_of w f))) None)

abbrev pub count_of : List ℕ → Option ℕ
count_of f = integer_of 11 f

abbrev pub is_count : Option ℕ → Bool
is_count (Some n) = true
is_count None = false

-- the number of a count; 0 of a field that is none
abbrev pub number_of : Option ℕ → ℕ
number_of (Some n) = n
number_of None = 0

-- document 01's number for each case, and the number that is counted: "7 | system field not in its form"
pub record CountAnswer : Type 0 where
  pub refusal : ℕ
  pub number : ℕ

abbrev pub count_answer : Option ℕ → CountAnswer
count_answer (Some n) = record { refusal = 0; number = n }
count_answer None = record { refusal = 7; number = 0 }

-- a number up to a limit, 0 past it
abbrev pub up_to : ℕ → ℕ → ℕ
up_to most n = cond (leb n most) n 0

-- ---- "Date: 3 blanks and YYYYMMDD, month 01-12, day 01-31."

unfoldable pub is_date : List ℕ → Bool
is_date f = blank_to 3 f && digits_in f 3 8 && within 1 12 (number_in f 7 2) && within 1 31 (number_in f 9 2)

-- ---- ENTRY's N1: "6 blanks, accession (capital or digit, then 4 digits)"; SUBENT's and NOSUBENT's: "3 blanks,
-- accession, 3 digits"

-- the five columns from i are an accession
unfoldable pub is_accession : List ℕ → ℕ → Bool
is_accession f i = (is_capital (get_or f i 0) || is_digit (get_or f i 0)) && digits_in f (i + 1) 4

unfoldable pub is_entry_n1 : List ℕ → Bool
is_entry_n1 f = blank_to 6 f && is_accession f 6

unfoldable pub is_subent_n1 : List ℕ → Bool
is_subent_n1 f = blank_to 3 f && is_accession f 3 && digits_in f 8 3

-- the subentry's number, the last three columns of SUBENT's N1
unfoldable pub subentry_of : List ℕ → ℕ
subentry_of f = number_in f 8 3
