-- Lines in the CINDA2001 layout (document 000, ch. 10, "CINDA2001 exchange format"; document 02, M-113):
--
--   "Clients also hold lines in the CINDA2001 layout (document 000, ch. 10): 125 columns and a line feed. Check and take
--   apart up to 20,000 lines, and write them back."
--
--   1 operation | 2-4 target Z | 5-7 target A | 8 isomer | 9-23 reaction | 24-27 quantity | 28-33 institute | 34-37 block |
--   38-39 sequence | 40 work type | 41 reader | 42-48 least energy | 49-55 greatest energy | 56 hierarchy | 57 reference
--   type | 58-79 reference code | 80-85 reference date | 86-125 comment
use Rattle.std.specs.Prelude.{ℕ, ◌-◌, ◌/◌, ◌≡◌, List, length, get_or}
use Rattle.laws.specs.Blocks.{blocks, block_at}
use Rattle.paper_record.specs.Columns.{columns_at}

-- "125 columns and a line feed"
abbrev pub COLUMNS : ℕ
COLUMNS = 125

abbrev pub LINE : ℕ
LINE = 126

abbrev pub MOST-CINDA : ℕ
MOST-CINDA = 20000

-- the bytes are one line
pub record WholeLine (l : List ℕ) : Type 0 where
  pub long : length l ≡ LINE

-- the column k of a line, counted from 1 as the manual counts them; column 126 is the line end
abbrev pub column_of : List ℕ → ℕ → ℕ
column_of l k = get_or l (k - 1) 0

-- w columns from column k on
abbrev pub columns_in : List ℕ → ℕ → ℕ → List ℕ
columns_in l k w = columns_at (k - 1) w l

-- the energy that begins in column k: "with column 7 as the last"
abbrev pub energy_at : List ℕ → ℕ → List ℕ
energy_at l k = columns_in l k 7

-- how many lines there are, and the line with the index i
abbrev pub lines_count : List ℕ → ℕ
lines_count s = length s / LINE

abbrev pub line_at : List ℕ → ℕ → List ℕ
line_at s i = block_at LINE s i

-- all of them
abbrev pub lines_in : List ℕ → List (List ℕ)
lines_in s = blocks LINE (lines_count s) s
