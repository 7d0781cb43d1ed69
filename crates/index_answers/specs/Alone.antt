-- A row by itself is an index: a program that goes through a table finds the row once and asks by its five numbers. That
-- every answer is the same follows, since each is that from the row.
use Rattle.std.specs.Prelude.{ℕ, ◌*◌, ◌≡◌, List, take, drop}
use Rattle.paper_record.specs.declared.types.LineNo.{LineNo}
use Rattle.paper_index.specs.ByIndex.{rows_before, row_refusal}
use Rattle.paper_index.specs.ByIndex.{value_by_index, heading_by_index, unit_by_index, passage_by_index}

-- the five numbers of the first row with a number
abbrev pub row_alone : List ℕ → ℕ → List ℕ
row_alone t n = take 5 (drop (rows_before t n * 5) t)

-- whatever the numbers of the index and the bytes of the entry are
pub record AnsweredAlone (s t : List ℕ) (n : ℕ) : Type 0 where
  pub value : (section : ℕ) (line : LineNo) (column : ℕ)
      → value_by_index s (row_alone t n) n section line column ≡ value_by_index s t n section line column
  pub heading : (section column : ℕ) → heading_by_index s (row_alone t n) n section column ≡ heading_by_index s t n section column
  pub unit : (section column : ℕ) → unit_by_index s (row_alone t n) n section column ≡ unit_by_index s t n section column
  pub passage : (keyword : List ℕ) (pointer : ℕ)
      → passage_by_index s (row_alone t n) n keyword pointer ≡ passage_by_index s t n keyword pointer

abbrev pub RowAlone : Type 0
RowAlone = (s t : List ℕ) (n : ℕ) → row_refusal t n ≡ 0 → AnsweredAlone s t n
