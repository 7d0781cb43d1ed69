-- The place of a value has a number of 32 bits, and a field of six.
-- Assumes nothing.
use Prim.Native.Nat.{ℕ, ◌-◌, ◌≤◌}
use native.Mathlib.Omega.{arith}
use native.Mathlib.Nat.{mul-le-mul}
use Rattle.paper_record.specs.Places.{records_for, place_of, InTable}
use Rattle.paper_rules.specs.Limits.{MOST-RECORDS, MOST-COLUMNS, MOST-LINES}
use Rattle.paper_record.specs.declared.types.RecordNo.{RecordNo}
use Rattle.paper_record.specs.declared.types.LineNo.{LineNo}
use Rattle.paper_record.proofs.TablePlaces.{place_at, place-field}
use Rattle.paper_questions.specs.declared.types.Shape.{Shape}
use Rattle.paper_questions.specs.Refused.{InShape}

-- the record of a value is one of 32 bits
pub value_placed : (section : RecordNo) (shape : Shape) (line : LineNo) (column : ℕ) → section.0 ≤ MOST-RECORDS
    → shape.columns ≤ MOST-COLUMNS → shape.lines ≤ MOST-LINES → InShape shape line column
    → InTable section shape.columns line column
value_placed section shape line column a b c i =
    let e = place_at section shape.columns line column in
    let k : records_for shape.columns ≤ 3 = omega arith in
    let l : line.0 - 1 ≤ MOST-LINES = omega arith in
    let m = mul-le-mul l k in
    record { line_from = i.line_from; column_from = i.column_from; number = omega arith }

pub value-field : (section : RecordNo) (columns : ℕ) (line : LineNo) (column : ℕ)
    → (place_of section columns line column).field ≤ 5
value-field section columns line column = let e = place-field section columns line column in omega arith
