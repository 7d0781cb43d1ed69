-- The answers to questions for a part of the entry, by the verdict on the entry and the row of the subentry (document
-- 01, "Refusal numbers and their order"):
--
--   "Heading and unit are handed back as a part of the caller's entry, ten columns, the heading's pointer beside either;
--   a passage likewise, whole records. A refused part is empty, its pointer blank; [..] headings and units skip 34."
use Rattle.std.specs.Prelude.{ℕ, ◌+◌, ◌*◌, ◌≤◌, cond, List, eqb, leb, length, take, drop}
use Rattle.paper_record.specs.Text.{within}
use Rattle.paper_record.specs.Word.{pointer_of}
use Rattle.paper_entry.specs.declared.types.Verdict.{Verdict}
use Rattle.paper_entry.specs.declared.types.Answer.{Answer}
use Rattle.paper_entry.specs.Answer.{answer_of, answer_for}
use Rattle.paper_questions.specs.declared.types.Row.{Row}
use Rattle.paper_questions.specs.declared.types.PartAnswer.{PartAnswer}
use Rattle.paper_questions.specs.Place.{shape_of, heading_place, unit_place, field_of, first_byte, byte_of}
use Rattle.paper_questions.specs.Passage.{passage_of}
use Rattle.paper_questions.specs.Refused.{section_in, column_refusal, passage_refusal}

abbrev pub no_part : Answer → PartAnswer
no_part a = record { answer = a; first = 0; length = 0; pointer = 32 }

-- so many bytes from a byte on, where the entry has them; that it has those of every heading and unit inside its shape
-- are the laws `heading-answered` and `unit-answered`
abbrev pub part_from : List ℕ → Answer → ℕ → ℕ → ℕ → PartAnswer
part_from s a from bytes pointer =
    cond (leb (from + bytes) (length s)) (record { answer = a; first = from; length = bytes; pointer = pointer })
    (no_part a)

-- "A refused part is empty, its pointer blank"
abbrev pub part_with : List ℕ → Verdict → ℕ → ℕ → ℕ → ℕ → PartAnswer
part_with s v number from bytes pointer =
    cond (eqb number 0) (part_from s (answer_of 0) from bytes pointer) (no_part (answer_for v number))

-- it lies in the entry
pub record Lies (s : List ℕ) (p : PartAnswer) : Type 0 where
  pub within : p.first + p.length ≤ length s

-- the part itself, as it is handed back
abbrev pub bytes_in : List ℕ → PartAnswer → List ℕ
bytes_in s p = take p.length (drop p.first s)

-- "Heading and unit are handed back as a part of the caller's entry, ten columns, the heading's pointer beside either"
unfoldable pub heading_by : List ℕ → Verdict → Row → ℕ → ℕ → PartAnswer
heading_by s v x section column =
    let at = section_in x section in
    let heading = heading_place at column in
    part_with s v (column_refusal s v x at (shape_of s section at) column)
    (byte_of heading) 10 (pointer_of (field_of s heading))

unfoldable pub unit_by : List ℕ → Verdict → Row → ℕ → ℕ → PartAnswer
unit_by s v x section column =
    let at = section_in x section in
    let shape = shape_of s section at in
    part_with s v (column_refusal s v x at shape column)
    (byte_of (unit_place at shape.columns column)) 10 (pointer_of (field_of s (heading_place at column)))

-- "a passage likewise, whole records"; the pointer beside it is the one asked for
unfoldable pub passage_by : List ℕ → Verdict → Row → List ℕ → ℕ → PartAnswer
passage_by s v x keyword pointer =
    let p = passage_of s x.bib keyword pointer in
    part_with s v (passage_refusal s v x p) (first_byte p.first) (p.records * 81) pointer
