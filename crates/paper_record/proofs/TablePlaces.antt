-- The place of a column lies in its section: behind the heading and unit records, and not behind the last line.
-- Assumes nothing.
use mathlib.Core.Path.{◌≡◌, refl}
use Prim.Native.Nat.{ℕ, ◌+◌, ◌-◌, ◌*◌, ◌/◌, ◌%◌, ◌<◌, ◌≤◌}
use native.Mathlib.Nat.{mul-le-mul_right, add-mul}
use native.Mathlib.Omega.{arith}
use Rattle.paper_record.specs.Places.{records_for, place_of, InTable}
use Rattle.paper_record.specs.declared.types.RecordNo.{RecordNo}
use Rattle.paper_record.specs.declared.types.LineNo.{LineNo}

module _ (section : RecordNo) (columns : ℕ) (line : LineNo) (column : ℕ) where
  -- its record and its field
  pub place_at : (place_of section columns line column).at.0
      ≡ section.0 + (2 * records_for columns + ((line.0 - 1) * records_for columns + ((column - 1) / 6 + 1)))
  unfolding place_of
  place_at = refl

  pub place-field : (place_of section columns line column).field ≡ (column - 1) % 6
  unfolding place_of
  place-field = refl

  pub place-behind : section.0 + 2 * records_for columns < (place_of section columns line column).at.0
  unfolding place_of
  place-behind = omega arith

  module _ (lines : ℕ) (from : 1 ≤ line.0) (to : line.0 ≤ lines) (first : 1 ≤ column) (last : column ≤ columns) where
    pub place-upto : (place_of section columns line column).at.0 ≤ section.0 + (2 + lines) * records_for columns
    unfolding place_of
    place-upto =
        let k : ℕ = records_for columns in
        let above : (line.0 - 1 + 1) * k ≤ lines * k = mul-le-mul_right k (omega arith) in
        let one : (line.0 - 1 + 1) * k ≡ (line.0 - 1) * k + 1 * k = add-mul (line.0 - 1) 1 k in
        let all : (2 + lines) * k ≡ 2 * k + lines * k = add-mul 2 lines k in
        omega (arith, above, one, all)

    -- what `place_of` asks, for a section whose last record has a number of 32 bits
    pub in_table : section.0 + (2 + lines) * records_for columns < 4294967296 → InTable section columns line column
    in_table h =
        let u : (place_of section columns line column).at.0 ≤ section.0 + (2 + lines) * records_for columns
        = place-upto in
        record { line_from = from; column_from = first; number = omega (arith, u, h) }
