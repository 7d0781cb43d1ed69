-- Values, headings and units answered from a row, whatever bytes and numbers these are (document 02, M-102):
--
--   "[..] then 32 to 36, with 39 where it is met and 31 no longer given."
--
-- Each list of refusals is the order of the reads; the number is the first that is given.
use Rattle.std.specs.Prelude.{ℕ, cond, not, ◌&&◌, List, [], ◌∷◌, ◌++◌, eqb}
use Rattle.paper_number.specs.declared.types.Reading.TheVariants.{Blank}
use Rattle.paper_number.specs.declared.types.FieldRead.{FieldRead}
use Rattle.paper_number.specs.Digits.{field_read}
use Rattle.paper_record.specs.Places.{place_of}
use Rattle.paper_record.specs.Word.{pointer_of}
use Rattle.paper_record.specs.declared.types.LineNo.{LineNo}
use Rattle.paper_entry.specs.Answer.{refusal, first_of, answer_of}
use Rattle.paper_questions.specs.declared.types.Row.{Row}
use Rattle.paper_questions.specs.declared.types.ValueAnswer.{ValueAnswer}
use Rattle.paper_questions.specs.declared.types.PartAnswer.{PartAnswer}
use Rattle.paper_questions.specs.Place.{shape_of, heading_place, unit_place, field_of, byte_of}
use Rattle.paper_questions.specs.Refused.{section_in, no_line, no_column}
use Rattle.paper_questions.specs.PartAnswers.{no_part, part_from}
use Rattle.paper_index.specs.Reads.{read_refusals, table_identifier, good_value, good_heading, good_unit}

-- ---- what stands beside a number: zeros, as 31 is not given

-- "a refused value is blank beside its number"
abbrev pub value_beside : ℕ → FieldRead → ValueAnswer
value_beside number field =
    record {
      answer = answer_of number;
      value = cond (eqb number 0) field.reading Blank;
      digits = cond (eqb number 0) field.digits 0;
    }

-- "A refused part is empty, its pointer blank"
abbrev pub part_beside : List ℕ → ℕ → ℕ → ℕ → ℕ → PartAnswer
part_beside s number from bytes pointer =
    cond (eqb number 0) (part_from s (answer_of 0) from bytes pointer) (no_part (answer_of number))

-- ---- the answers

unfoldable pub value_from_row : List ℕ → Row → ℕ → LineNo → ℕ → ValueAnswer
value_from_row s x section line column =
    let at = section_in x section in
    let shape = shape_of s section at in
    let place = place_of at shape.columns line column in
    let field = field_read (field_of s place) in
    value_beside
    (first_of
    (read_refusals s x at (table_identifier section)
    ++ (refusal 34 (no_line shape line) ∷ refusal 35 (no_column shape column)
    ∷ refusal 39 (not (good_value s section place field.reading)) ∷ [])))
    field

unfoldable pub heading_from_row : List ℕ → Row → ℕ → ℕ → PartAnswer
heading_from_row s x section column =
    let at = section_in x section in
    let heading = heading_place at column in
    part_beside s
    (first_of
    (read_refusals s x at (table_identifier section)
    ++ (refusal 35 (no_column (shape_of s section at) column) ∷ refusal 39 (not (good_heading s heading)) ∷ [])))
    (byte_of heading) 10 (pointer_of (field_of s heading))

-- "the heading's pointer beside either": both fields are read
unfoldable pub unit_from_row : List ℕ → Row → ℕ → ℕ → PartAnswer
unit_from_row s x section column =
    let at = section_in x section in
    let shape = shape_of s section at in
    let heading = heading_place at column in
    let unit = unit_place at shape.columns column in
    part_beside s
    (first_of
    (read_refusals s x at (table_identifier section)
    ++ (refusal 35 (no_column shape column) ∷ refusal 39 (not (good_heading s heading && good_unit s unit)) ∷ [])))
    (byte_of unit) 10 (pointer_of (field_of s heading))
