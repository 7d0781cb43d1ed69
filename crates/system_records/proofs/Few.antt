-- How many records a section has at the most: those of a table of 18 columns and 20,000 lines.
-- Assumes nothing.
use Prim.Native.Nat.{ℕ, ◌+◌, ◌*◌, ◌≤◌}
use native.Mathlib.Omega.{arith}
use native.Mathlib.Nat.{mul-le-mul_left}
use Rattle.paper_record.specs.Places.{records_for}
use Rattle.paper_rules.specs.Limits.{MOST-COLUMNS, MOST-LINES}
use Rattle.system_records.specs.Next.{table_records}

pub table-few : (columns lines : ℕ) → columns ≤ MOST-COLUMNS → lines ≤ MOST-LINES → table_records columns lines ≤ 60006
table-few columns lines h l =
    let k : records_for columns ≤ 3 = omega arith in
    let m = mul-le-mul_left (2 + lines) k in
    omega (arith, m)
