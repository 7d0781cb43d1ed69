-- The paper's limits.
use Rattle.std.specs.Prelude.{ℕ}

-- "An entry is 1 to 20,000 records."
abbrev pub MOST-RECORDS : ℕ
MOST-RECORDS = 20000

-- "columns, 1-18"
abbrev pub MOST-COLUMNS : ℕ
MOST-COLUMNS = 18

-- "lines, 1-20,000"
abbrev pub MOST-LINES : ℕ
MOST-LINES = 20000

-- "Later numbers rise strictly, up to 998."
abbrev pub LAST-SUBENTRY : ℕ
LAST-SUBENTRY = 998
