-- The rules for a line, one for each refusal number, and their order (document 02, M-113). What each test says in plain
-- words, and that a line has these faults and no others, stands in cinda_laws.
--
--   "Refusals: 70 length (none, not whole lines, too many), 71 line end, 72 character, 73 operation, 74 target, 75 block or
--   sequence, 76 energy, 77 reference date not YYYYMM, month 01-12; 70 first, then line by line, lowest number, then
--   leftmost column (for 73 to 77 the field's first), named with the line"
use Rattle.std.specs.Prelude.{ℕ, ◌+◌, Bool, true, cond, not, ◌&&◌, ◌||◌, List, [], ◌∷◌, ◌++◌, eqb}
use Rattle.paper_faults.specs.Fault.{Columns, when, columns_where, Finding, finding, first_fault, Checked}
use Rattle.paper_record.specs.Text.{text, within, is_blank, is_digit, is_capital}
use Rattle.paper_record.specs.Class.{not_permitted}
use Rattle.paper_record.specs.Word.{equal_to}
use Rattle.paper_record.specs.System.{integer_of, is_count, digits_in, number_in}
use Rattle.paper_record.specs.Numbers.{form_at, no_value}
use Rattle.paper_cinda.specs.Layout.{COLUMNS, column_of, columns_in, energy_at}

-- 71, "line end"
unfoldable pub rule71 : List ℕ → Columns
rule71 l = when (not (eqb (column_of l 126) 10)) 126

-- 72, "character": each of columns 1 to 125 that is not permitted
unfoldable pub rule72 : List ℕ → Columns
rule72 l = columns_where (not_permitted l) (λ i. i + 1) COLUMNS

-- 73, "Operation is A, D or M"
unfoldable pub is_operation : ℕ → Bool
is_operation b = eqb b 65 || (eqb b 68 || eqb b 77)

unfoldable pub rule73 : List ℕ → Columns
rule73 l = when (not (is_operation (column_of l 1))) 1

-- 74: "integers are right-adjusted with blanks in front; columns 2-4 are 999 where 5-7 hold MNY; the isomer column is blank
-- or a digit"
abbrev pub is_integer : List ℕ → ℕ → ℕ → Bool
is_integer l k w = is_count (integer_of w (columns_in l k w))

unfoldable pub is_many : List ℕ → Bool
is_many l = equal_to 3 (columns_in l 5 3) (text "MNY")

unfoldable pub good_z : List ℕ → Bool
good_z l = cond (is_many l) (equal_to 3 (columns_in l 2 3) (text "999")) (is_integer l 2 3)

unfoldable pub good_mass : List ℕ → Bool
good_mass l = is_many l || is_integer l 5 3

unfoldable pub good_isomer : List ℕ → Bool
good_isomer l = is_blank (column_of l 8) || is_digit (column_of l 8)

unfoldable pub rule74 : List ℕ → Columns
rule74 l = when (not (good_z l)) 2 ++ (when (not (good_mass l)) 5 ++ when (not (good_isomer l)) 8)

-- 75: "a block is a capital or digit and a number, and it and the sequence are required"
unfoldable pub good_block : List ℕ → Bool
good_block l = (is_capital (column_of l 34) || is_digit (column_of l 34)) && is_integer l 35 3

unfoldable pub rule75 : List ℕ → Columns
rule75 l = when (not (good_block l)) 34 ++ when (not (is_integer l 38 2)) 38

-- 76: "Energies follow the number rules with column 7 as the last, or are blank"
unfoldable pub rule76 : List ℕ → Columns
rule76 l = when (no_value true (form_at (energy_at l 42))) 42 ++ when (no_value true (form_at (energy_at l 49))) 49

-- 77, "reference date not YYYYMM, month 01-12"
unfoldable pub good_date : List ℕ → Bool
good_date l = digits_in l 79 6 && within 1 12 (number_in l 83 2)

unfoldable pub rule77 : List ℕ → Columns
rule77 l = when (not (good_date l)) 80

-- ---- "lowest number, then leftmost column"

abbrev pub findings : List ℕ → List Finding
findings l =
    finding 71 (rule71 l)
    ∷ finding 72 (rule72 l)
    ∷ finding 73 (rule73 l)
    ∷ finding 74 (rule74 l)
    ∷ finding 75 (rule75 l)
    ∷ finding 76 (rule76 l)
    ∷ finding 77 (rule77 l)
    ∷ []

unfoldable pub line_fault : List ℕ → Checked
line_fault l = first_fault (findings l)
