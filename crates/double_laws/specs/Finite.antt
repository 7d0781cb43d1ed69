-- A double that is given is a number: no NaN, no infinity, and no -0.0. For every list of bytes, every row and every index,
-- and for every field in hand.
use Rattle.std.specs.Prelude.{ℕ, ◌≡◌, false, List, length, Float}
use Rattle.std.specs.Float.{nan, inf, fin}
use Rattle.paper_number.specs.Reading.{read_field}
use Rattle.paper_record.specs.declared.types.LineNo.{LineNo}
use Rattle.paper_questions.specs.declared.types.Row.{Row}
use Rattle.paper_double.specs.declared.types.Simple.TheVariants.{Double}
use Rattle.paper_double.specs.Double.{doubled}
use Rattle.paper_double_asking.specs.Ask.{double_asked, double_from_row, double_by_index}

-- `fin s m e` is m times two to the e, below zero where s is true
abbrev pub Proper : Float → Type 0
Proper nan = ⊥
Proper (inf s) = ⊥
Proper (fin s m e) = m ≡ 0 → s ≡ false

abbrev pub FiniteField : Type 0
FiniteField = (l : List ℕ) (x : Float) → length l ≡ 11 → doubled (read_field l) ≡ Double x → Proper x

abbrev pub DoubleFinite : Type 0
DoubleFinite =
    (s : List ℕ) (n section : ℕ) (line : LineNo) (column : ℕ) (x : Float)
    → (double_asked s n section line column).value ≡ Double x → Proper x

abbrev pub FiniteFromRow : Type 0
FiniteFromRow =
    (s : List ℕ) (row : Row) (section : ℕ) (line : LineNo) (column : ℕ) (x : Float)
    → (double_from_row s row section line column).value ≡ Double x → Proper x

abbrev pub FiniteByIndex : Type 0
FiniteByIndex =
    (s index : List ℕ) (n section : ℕ) (line : LineNo) (column : ℕ) (x : Float)
    → (double_by_index s index n section line column).value ≡ Double x → Proper x
