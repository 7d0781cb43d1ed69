-- The rule by the place of the heading record, as the code goes, and the first letters by which it passes over tables
-- without flags. Not read against the paper; that the first is the rule is the law `below-same`.
use Rattle.std.specs.Prelude.{ℕ, ◌+◌, ◌*◌, Bool, ◌||◌, List, [], eqb, get_or}
use Prim.Native.Char.{code}
use Rattle.paper_record.specs.Columns.{columns_at}
use Rattle.paper_rules.specs.Record.{Fields}
use Rattle.paper_rules.specs.Flags.{flag_fault}

-- the field k is at fault under its heading, in the heading record at `from`
abbrev pub fault_below : List ℕ → List ℕ → List ℕ → ℕ → Fields → ℕ → Bool
fault_below bib bib001 table from fs k = flag_fault bib bib001 (columns_at (from + k * 11) 11 table) (get_or fs k [])

-- FLAG, DECAY-FLAG
abbrev pub starts_flag : ℕ → Bool
starts_flag b = eqb b (code "F") || eqb b (code "D")

-- the first letter of one of the six headings
unfoldable pub letter_in : List ℕ → ℕ → Bool
letter_in table from =
    starts_flag (get_or table from 0)
    || (starts_flag (get_or table (from + 11) 0)
    || (starts_flag (get_or table (from + 22) 0)
    || (starts_flag (get_or table (from + 33) 0)
    || (starts_flag (get_or table (from + 44) 0)
    || starts_flag (get_or table (from + 55) 0)))))
