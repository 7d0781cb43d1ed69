-- What the rules of a table find, and the fault that is told. A rule gives the columns at fault, from left to right; the
-- fault is that of the lowest number, at its leftmost column. Nothing here knows what the rules are made on: records of
-- an entry or of a file, lines in another layout.
use Rattle.paper_faults.specs.declared.types.Fault.{Fault}
use Rattle.std.specs.Prelude.{ℕ, zero, suc, ◌+◌, Bool, true, false, cond, List, [], ◌∷◌, eqb, ltb, Result, Ok, Err}

-- ---- columns at fault

-- columns by their numbers, from 1
abbrev pub Columns : Type 0
Columns = List ℕ

-- those of a rule that is made on this kind of record, none where it is not
abbrev pub on : Bool → Columns → Columns
on true columns = columns
on false columns = []

-- the column, where the test holds
abbrev pub when : Bool → ℕ → Columns
when true column = column ∷ []
when false column = []

-- of the n places from i those that meet a test, each as a column
unfoldable pub columns_from : (ℕ → Bool) → (ℕ → ℕ) → ℕ → ℕ → Columns
columns_from test column i zero = []
columns_from test column i (suc n) =
    cond (test i) (column i ∷ columns_from test column (i + 1) n) (columns_from test column (i + 1) n)

abbrev pub columns_where : (ℕ → Bool) → (ℕ → ℕ) → ℕ → Columns
columns_where test column n = columns_from test column 0 n

-- the column of the place k of n, none where k is not below n
abbrev pub column_at : (ℕ → ℕ) → ℕ → ℕ → ℕ
column_at column k n = cond (ltb k n) (column k) 0

-- "within that the leftmost column"; columns are numbered from 1, and 0 is none
abbrev pub leftmost : Columns → ℕ
leftmost [] = 0
leftmost (column ∷ columns) = column

-- ---- the fault

-- what the rules come to: nothing, or the fault
abbrev pub Checked : Type 0
Checked = Result (Unit {0}) Fault

abbrev pub faultless : Checked
faultless = Ok tt

abbrev pub fault_at : ℕ → ℕ → Checked
fault_at number column = Err (record { number = number; column = column })

-- the number and column for each case: 0 0 where there is none
pub record FaultAnswer : Type 0 where
  pub number : ℕ
  pub column : ℕ

abbrev pub fault_answer : Checked → FaultAnswer
fault_answer (Ok _) = record { number = 0; column = 0 }
fault_answer (Err fault) = record { number = fault.number; column = fault.column }

-- what a rule found: its refusal number, and the columns
pub record Finding : Type 0 where
  pub number : ℕ
  pub columns : Columns

abbrev pub finding : ℕ → Columns → Finding
finding number columns = record { number = number; columns = columns }

-- the number with its column, or what is found further on
abbrev pub or_else : ℕ → ℕ → Checked → Checked
or_else number column rest = cond (eqb column 0) rest (fault_at number column)

-- "within one record the lowest number": the findings stand by their numbers
unfoldable pub first_fault : List Finding → Checked
first_fault [] = faultless
first_fault (f ∷ fs) = or_else f.number (leftmost f.columns) (first_fault fs)
