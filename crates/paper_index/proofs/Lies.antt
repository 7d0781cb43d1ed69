-- A part that is answered from a row, or by an index of any numbers, lies in the entry.
-- Assumes nothing.
use Prim.Native.Nat.{ℕ, ◌+◌, ◌-◌, ◌*◌}
use mathlib.Core.Path.{◌≡◌}
use mathlib.Core.Bool.{cond, not, ◌&&◌}
use mathlib.Core.List.{List, [], ◌∷◌, ◌++◌}
use native.Mathlib.Omega.{arith}
use lib.Dec.{eqb, leb}
use lib.ListN.{length}
use borrow.Author.Tests.{leb-true}
use Rattle.laws.proofs.Booleans.{either-as}
use Rattle.paper_record.specs.Identifier.{BIB}
use Rattle.paper_record.specs.Word.{pointer_of}
use Rattle.paper_entry.specs.declared.types.Answer.{Answer}
use Rattle.paper_entry.specs.Answer.{refusal, first_of, answer_of}
use Rattle.paper_questions.specs.declared.types.Row.{Row}
use Rattle.paper_questions.specs.declared.types.PartAnswer.{PartAnswer}
use Rattle.paper_questions.specs.Place.{shape_of, heading_place, unit_place, field_of, first_byte, byte_of}
use Rattle.paper_questions.specs.Refused.{section_in, no_column}
use Rattle.paper_questions.specs.Passage.{text_record}
use Rattle.paper_questions.specs.PartAnswers.{no_part, part_from, Lies}
use Rattle.paper_index.specs.Reads.{read_refusals, table_identifier, good_heading, good_unit}
use Rattle.paper_index.specs.TableAnswers.{part_beside, heading_from_row, unit_from_row}
use Rattle.paper_index.specs.PassageAnswers.{texts_held, begun_at, ended_at, passage_refusals, passage_from_row}
use Rattle.paper_index.specs.ByIndex.{row_in, rows_before, row_refusal, part_by_index}
use Rattle.paper_index.specs.ByIndex.{heading_by_index, unit_by_index, passage_by_index}

empty-lies : (s : List ℕ) (a : Answer) → Lies s (no_part a)
empty-lies s a = record { within = omega arith }

from-lies : (s : List ℕ) (a : Answer) (from bytes pointer : ℕ) → Lies s (part_from s a from bytes pointer)
from-lies s a from bytes pointer =
    either-as (Lies s) (leb (from + bytes) (length s))
    (record { answer = a; first = from; length = bytes; pointer = pointer }) (no_part a)
    (λ e. record { within = leb-true (from + bytes) (length s) e })
    (λ e. empty-lies s a)

pub beside_lies : (s : List ℕ) (n from bytes pointer : ℕ) → Lies s (part_beside s n from bytes pointer)
beside_lies s n from bytes pointer =
    either-as (Lies s) (eqb n 0) (part_from s (answer_of 0) from bytes pointer) (no_part (answer_of n))
    (λ e. from-lies s (answer_of 0) from bytes pointer)
    (λ e. empty-lies s (answer_of n))

-- ---- from a row

module _ (s : List ℕ) (x : Row) where
  pub heading-row-lies : (section column : ℕ) → Lies s (heading_from_row s x section column)
  unfolding heading_from_row
  heading-row-lies section column =
      let at = section_in x section in
      let heading = heading_place at column in
      beside_lies s
      (first_of
      (read_refusals s x at (table_identifier section)
      ++ (refusal 35 (no_column (shape_of s section at) column) ∷ refusal 39 (not (good_heading s heading)) ∷ [])))
      (byte_of heading) 10 (pointer_of (field_of s heading))

  pub unit-row-lies : (section column : ℕ) → Lies s (unit_from_row s x section column)
  unfolding unit_from_row
  unit-row-lies section column =
      let at = section_in x section in
      let shape = shape_of s section at in
      let heading = heading_place at column in
      let unit = unit_place at shape.columns column in
      beside_lies s
      (first_of
      (read_refusals s x at (table_identifier section)
      ++ (refusal 35 (no_column shape column) ∷ refusal 39 (not (good_heading s heading && good_unit s unit)) ∷ [])))
      (byte_of unit) 10 (pointer_of (field_of s heading))

  pub passage-row-lies : (keyword : List ℕ) (pointer : ℕ) → Lies s (passage_from_row s x keyword pointer)
  unfolding passage_from_row
  passage-row-lies keyword pointer =
      let bib = x.bib in
      let from : ℕ = begun_at s bib keyword pointer (texts_held s bib) in
      let past : ℕ = ended_at s bib from (texts_held s bib) in
      beside_lies s (first_of (read_refusals s x bib BIB ++ passage_refusals s bib from past))
      (first_byte (text_record bib from)) ((past - from) * 81) pointer

-- ---- by an index

module _ (s t : List ℕ) (n : ℕ) where
  abbrev row : Row
  row = row_in t (rows_before t n)

  index-lies : (p : PartAnswer) → Lies s p → Lies s (part_by_index t n p)
  index-lies p h =
      either-as (Lies s) (eqb (row_refusal t n) 0) p (no_part (answer_of (row_refusal t n)))
      (λ e. h)
      (λ e. empty-lies s (answer_of (row_refusal t n)))

  pub heading-index-lies : (section column : ℕ) → Lies s (heading_by_index s t n section column)
  unfolding heading_by_index
  heading-index-lies section column =
      index-lies (heading_from_row s row section column) (heading-row-lies s row section column)

  pub unit-index-lies : (section column : ℕ) → Lies s (unit_by_index s t n section column)
  unfolding unit_by_index
  unit-index-lies section column =
      index-lies (unit_from_row s row section column) (unit-row-lies s row section column)

  pub passage-index-lies : (keyword : List ℕ) (pointer : ℕ) → Lies s (passage_by_index s t n keyword pointer)
  unfolding passage_by_index
  passage-index-lies keyword pointer =
      index-lies (passage_from_row s row keyword pointer) (passage-row-lies s row keyword pointer)
