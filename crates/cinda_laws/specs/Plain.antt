-- Each test of a line in the words of document 02, M-113: of its columns only, with no search and no machine. No plain thing
-- (from `in_column` to `DateHeld`) rests on the layout or the rules of paper_cinda.
--
-- The code follows the tests of paper_cinda (Rules), which compute. That they say the same as the plain things is stated in
-- the last part (`OperationExactly` ..), which names both, and proved in proofs/Exactly.
use Rattle.std.specs.Prelude.{ℕ, ◌-◌, ◌≤◌, ◌≡◌, true, false, ◌↔◌, List, get_or, take, drop}
use Rattle.paper_record.specs.Class.{is_permitted}
use Rattle.paper_record.specs.Numbers.{form_at, no_value}
use Rattle.paper_record.specs.Plain.{DigitsSay, CountSays, CapitalOrDigit, NumberOrBlank}
use Rattle.paper_cinda.specs.Layout.{energy_at}
use Rattle.paper_cinda.specs.Rules.{is_operation, is_many, is_integer, good_z, good_mass, good_isomer, good_block, good_date}

-- what stands in column k, counted from 1 as the manual counts them; a column that is not there counts as 0, which is no
-- character
abbrev pub in_column : List ℕ → ℕ → ℕ
in_column l k = get_or l (k - 1) 0

-- and in the w columns from column k on
abbrev pub in_columns : List ℕ → ℕ → ℕ → List ℕ
in_columns l k w = take w (drop (k - 1) l)

-- a character of document 01's list: the computing test over that list written out (paper_record, Class)
abbrev pub Permitted : ℕ → Type 0
Permitted b = is_permitted b ≡ true

-- "Operation is A, D or M"
pub data Operation (b : ℕ) : Type 0 where
  an_A : b ≡ 65 → Operation b
  a_D : b ≡ 68 → Operation b
  an_M : b ≡ 77 → Operation b

-- ---- the target

-- "integers are right-adjusted with blanks in front": the w columns from column k on are one
abbrev pub IntegerAt : List ℕ → ℕ → ℕ → Type 0
IntegerAt l k w = (m : ℕ) × CountSays w (in_columns l k w) m

-- "5-7 hold MNY"
pub record ManyHeld (l : List ℕ) : Type 0 where
  pub fifth : in_column l 5 ≡ 77
  pub sixth : in_column l 6 ≡ 78
  pub seventh : in_column l 7 ≡ 89

-- "columns 2-4 are 999"
pub record NinesHeld (l : List ℕ) : Type 0 where
  pub second : in_column l 2 ≡ 57
  pub third : in_column l 3 ≡ 57
  pub fourth : in_column l 4 ≡ 57

-- "columns 2-4 are 999 where 5-7 hold MNY", elsewhere an integer
pub data ZedHeld (l : List ℕ) : Type 0 where
  where_many : ManyHeld l → NinesHeld l → ZedHeld l
  elsewhere : (ManyHeld l → ⊥) → IntegerAt l 2 3 → ZedHeld l

-- MNY or an integer
pub data MassHeld (l : List ℕ) : Type 0 where
  all_many : ManyHeld l → MassHeld l
  an_integer : IntegerAt l 5 3 → MassHeld l

-- "the isomer column is blank or a digit"
pub data BlankOrDigit (b : ℕ) : Type 0 where
  blank : b ≡ 32 → BlankOrDigit b
  a_digit : 48 ≤ b → b ≤ 57 → BlankOrDigit b

-- ---- "a block is a capital or digit and a number, and it and the sequence are required"

pub record BlockHeld (l : List ℕ) : Type 0 where
  pub area : CapitalOrDigit (in_column l 34)
  pub number : IntegerAt l 35 3

-- ---- "Energies follow the number rules with column 7 as the last, or are blank"

abbrev pub EnergyHeld : List ℕ → ℕ → Type 0
EnergyHeld l k = NumberOrBlank true (in_columns l k 7)

-- ---- "reference date not YYYYMM, month 01-12": the year in columns 80-83, the month in 84-85

pub record DateHeld (l : List ℕ) : Type 0 where
  pub year : ℕ
  pub month : ℕ
  pub of_year : DigitsSay l 79 4 year
  pub of_month : DigitsSay l 83 2 month
  pub month_from : 1 ≤ month
  pub month_to : month ≤ 12

-- ---- that the computing tests say the same

abbrev pub OperationExactly : Type 0
OperationExactly = (b : ℕ) → (is_operation b ≡ true) ↔ Operation b

abbrev pub IntegerExactly : Type 0
IntegerExactly = (l : List ℕ) (k w : ℕ) → (is_integer l k w ≡ true) ↔ IntegerAt l k w

abbrev pub ManyExactly : Type 0
ManyExactly = (l : List ℕ) → (is_many l ≡ true) ↔ ManyHeld l

abbrev pub ZedExactly : Type 0
ZedExactly = (l : List ℕ) → (good_z l ≡ true) ↔ ZedHeld l

abbrev pub MassExactly : Type 0
MassExactly = (l : List ℕ) → (good_mass l ≡ true) ↔ MassHeld l

abbrev pub IsomerExactly : Type 0
IsomerExactly = (l : List ℕ) → (good_isomer l ≡ true) ↔ BlankOrDigit (in_column l 8)

abbrev pub BlockExactly : Type 0
BlockExactly = (l : List ℕ) → (good_block l ≡ true) ↔ BlockHeld l

abbrev pub EnergyExactly : Type 0
EnergyExactly = (l : List ℕ) (k : ℕ) → (no_value true (form_at (energy_at l k)) ≡ false) ↔ EnergyHeld l k

abbrev pub DateExactly : Type 0
DateExactly = (l : List ℕ) → (good_date l ≡ true) ↔ DateHeld l
