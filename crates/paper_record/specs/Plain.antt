-- What document 01 calls a word, a pointer, a count, a date, an accession, a value, and blank columns, in its own words:
-- of columns only, with no search. A column that is not there counts as 0, which is no character.
--
-- The code follows the definitions of Word, Faults, System and Numbers, which compute. That they say the same is stated
-- here (`WordExactly` ..), and proved in proofs/PlainColumns, PlainDigits and PlainValues. The names of the system
-- identifiers are said so in PlainNames.
use Rattle.std.specs.Prelude.{ℕ, ◌+◌, ◌<◌, ◌≤◌, ◌≡◌, Bool, true, false, ◌||◌, ◌↔◌, List, ◌++◌, length, get_or, take}
use Rattle.paper_number.specs.declared.types.Decimal.{Decimal}
use Rattle.paper_number.specs.declared.types.Form.TheVariants as Form
use Rattle.paper_number.specs.Grammar.{blanks, Digits, digits_text, num}
use Rattle.paper_number.specs.Value.{Reads}
use Rattle.paper_record.specs.Columns.{columns_at}
use Rattle.paper_record.specs.Text.{is_capital, is_digit}
use Rattle.std.specs.Prelude.{Some}
use Rattle.paper_record.specs.Word.{blank_to, equal_to, is_word, pointer_of}
use Rattle.paper_record.specs.Same.{SameColumns}
use Rattle.paper_record.specs.Faults.{bad_pointer, is_unit_word}
use Rattle.paper_record.specs.System.{digits_in, number_in, integer_of, CountAnswer, count_answer, is_date, is_entry_n1}
use Rattle.paper_record.specs.System.{is_subent_n1, subentry_of}
use Rattle.paper_record.specs.Numbers.{form_at, says_number, no_value}

-- ---- blank columns; equal ones are `SameColumns` of Same

-- the first w columns are blank
abbrev pub BlankColumns : ℕ → List ℕ → Type 0
BlankColumns w f = take w f ≡ blanks w

-- ---- "A word starts in the first column of its place, has no blank inside and is followed by blanks only."

-- so many of the w columns are filled, at least one; all behind them are blank
pub record Word (w : ℕ) (f : List ℕ) : Type 0 where
  pub filled : ℕ
  pub some : 1 ≤ filled
  pub most : filled ≤ w
  pub inside : (i : ℕ) → i < filled → get_or f i 0 ≡ 32 → ⊥
  pub behind : (i : ℕ) → filled ≤ i → i < w → get_or f i 0 ≡ 32

-- "A unit is a word in ten columns, eleventh blank."
pub record UnitWord (f : List ℕ) : Type 0 where
  pub word : Word 10 f
  pub eleventh : pointer_of f ≡ 32

-- ---- "A pointer is one of 1-9, A-Z. Blank means no pointer."

pub data PointerOrBlank (b : ℕ) : Type 0 where
  no_pointer : b ≡ 32 → PointerOrBlank b
  a_numeral : 49 ≤ b → b ≤ 57 → PointerOrBlank b
  a_letter : 65 ≤ b → b ≤ 90 → PointerOrBlank b

-- ---- digits and their number

-- the n columns behind the first i are digits, and m is the number that they say
pub record DigitsSay (f : List ℕ) (i n m : ℕ) : Type 0 where
  pub digits : List ℕ
  pub each : Digits digits
  pub wide : length digits ≡ n
  pub same : columns_at i n f ≡ digits_text digits
  pub number : num digits ≡ m

-- "A count is blanks, then digits up to the last column.": in w columns, at least one digit
pub record CountSays (w : ℕ) (f : List ℕ) (m : ℕ) : Type 0 where
  pub lead : ℕ
  pub digits : List ℕ
  pub each : Digits digits
  pub some : 1 ≤ length digits
  pub wide : lead + length digits ≡ w
  pub same : take w f ≡ blanks lead ++ digits_text digits
  pub number : num digits ≡ m

-- its answer is that number, or "7 | system field not in its form" where the columns say none
pub data CountAnswered (w : ℕ) (f : List ℕ) : CountAnswer → Type 0 where
  a_count : (m : ℕ) → CountSays w f m → CountAnswered w f (record { refusal = 0; number = m })
  no-count : ((m : ℕ) → CountSays w f m → ⊥) → CountAnswered w f (record { refusal = 7; number = 0 })

-- "Date: 3 blanks and YYYYMMDD, month 01-12, day 01-31."
pub record Date (f : List ℕ) : Type 0 where
  pub year : ℕ
  pub month : ℕ
  pub day : ℕ
  pub blank : BlankColumns 3 f
  pub of_year : DigitsSay f 3 4 year
  pub of_month : DigitsSay f 7 2 month
  pub of_day : DigitsSay f 9 2 day
  pub month_from : 1 ≤ month
  pub month_to : month ≤ 12
  pub day_from : 1 ≤ day
  pub day_to : day ≤ 31

-- ---- N1 of ENTRY, and of SUBENT and NOSUBENT

pub data CapitalOrDigit (b : ℕ) : Type 0 where
  a_capital : 65 ≤ b → b ≤ 90 → CapitalOrDigit b
  a_digit : 48 ≤ b → b ≤ 57 → CapitalOrDigit b

-- "accession (capital or digit, then 4 digits)", behind the first i columns
pub record Accession (f : List ℕ) (i : ℕ) : Type 0 where
  pub serial : ℕ
  pub first : CapitalOrDigit (get_or f i 0)
  pub digits : DigitsSay f (i + 1) 4 serial

-- "6 blanks, accession"
pub record EntryN1 (f : List ℕ) : Type 0 where
  pub blank : BlankColumns 6 f
  pub accession : Accession f 6

-- "3 blanks, accession, 3 digits": these are the subentry's number
pub record SubentN1 (f : List ℕ) (subentry : ℕ) : Type 0 where
  pub blank : BlankColumns 3 f
  pub accession : Accession f 3
  pub digits : DigitsSay f 8 3 subentry

-- ---- values, by the grammar of number fields: "COMMON values are never blank. DATA values may be"

-- all columns are blank
abbrev pub AllBlank : List ℕ → Type 0
AllBlank f = f ≡ blanks (length f)

-- the columns are a number field, of whatever value
abbrev pub NumberField : List ℕ → Type 0
NumberField f = (v : Decimal) × Reads f v

-- a number field, or blank where that is allowed
pub data NumberOrBlank (optional : Bool) (f : List ℕ) : Type 0 where
  a_number : NumberField f → NumberOrBlank optional f
  a_blank : optional ≡ true → AllBlank f → NumberOrBlank optional f

-- ---- that the computing definitions say the same

abbrev pub BlankExactly : Type 0
BlankExactly = (w : ℕ) (f : List ℕ) → (blank_to w f ≡ true) ↔ BlankColumns w f

abbrev pub EqualExactly : Type 0
EqualExactly = (w : ℕ) (a b : List ℕ) → (equal_to w a b ≡ true) ↔ SameColumns w a b

-- of lists that have so many columns, the first w are one and the same list
abbrev pub TakenExactly : Type 0
TakenExactly =
    (w : ℕ) (a b : List ℕ) → w ≤ length a → w ≤ length b → SameColumns w a b ↔ (take w a ≡ take w b)

abbrev pub WordExactly : Type 0
WordExactly = (w : ℕ) (f : List ℕ) → (is_word w f ≡ true) ↔ Word w f

abbrev pub UnitExactly : Type 0
UnitExactly = (f : List ℕ) → (is_unit_word f ≡ true) ↔ UnitWord f

abbrev pub PointerExactly : Type 0
PointerExactly = (f : List ℕ) → (bad_pointer f ≡ false) ↔ PointerOrBlank (pointer_of f)

abbrev pub DigitsExactly : Type 0
DigitsExactly =
    (f : List ℕ) (i n m : ℕ) → ((digits_in f i n ≡ true) × (number_in f i n ≡ m)) ↔ DigitsSay f i n m

abbrev pub CountExactly : Type 0
CountExactly = (w : ℕ) (f : List ℕ) (m : ℕ) → (integer_of w f ≡ Some m) ↔ CountSays w f m

abbrev pub CountAnswerExactly : Type 0
CountAnswerExactly =
    (w : ℕ) (f : List ℕ) (a : CountAnswer) → (count_answer (integer_of w f) ≡ a) ↔ CountAnswered w f a

abbrev pub DateExactly : Type 0
DateExactly = (f : List ℕ) → (is_date f ≡ true) ↔ Date f

abbrev pub MarkExactly : Type 0
MarkExactly = (b : ℕ) → ((is_capital b || is_digit b) ≡ true) ↔ CapitalOrDigit b

abbrev pub EntryExactly : Type 0
EntryExactly = (f : List ℕ) → (is_entry_n1 f ≡ true) ↔ EntryN1 f

abbrev pub SubentExactly : Type 0
SubentExactly = (f : List ℕ) (n : ℕ) → ((is_subent_n1 f ≡ true) × (subentry_of f ≡ n)) ↔ SubentN1 f n

abbrev pub ValueExactly : Type 0
ValueExactly = (optional : Bool) (f : List ℕ) → (no_value optional (form_at f) ≡ false) ↔ NumberOrBlank optional f

abbrev pub UnusedExactly : Type 0
UnusedExactly = (f : List ℕ) → (form_at f ≡ Form.Blank) ↔ AllBlank f

abbrev pub NumberExactly : Type 0
NumberExactly = (f : List ℕ) → (says_number (form_at f) ≡ true) ↔ NumberField f

-- a field is blank by its columns exactly when it is by its reading
abbrev pub BlankAlike : Type 0
BlankAlike = (f : List ℕ) → length f ≡ 11 → (blank_to 11 f ≡ true) ↔ (form_at f ≡ Form.Blank)
