-- What is claimed of the words and arrays of calls about an index: they say the answer, for every entry, every index and
-- whatever the array held; all of it but the rows that an entry has beside 38, and of a row that is found its place. Each type is
-- that of a law in proofs/IndexBack, under the law's name.
use Rattle.std.specs.Prelude.{ℕ, ◌≡◌, List}
use Rattle.paper_record.specs.declared.types.LineNo.{LineNo}
use Rattle.paper_entry.specs.Answer.{answer_of}
use Rattle.paper_index.specs.Making.{made}
use Rattle.paper_index.specs.ByIndex.{row_by_index, value_by_index, heading_by_index, unit_by_index, passage_by_index}
use Rattle.exports_words.specs.Words.{answer_word, answer_in}
use Rattle.exports_parts.specs.Questions.{value_answer, value_stored, value_answer_in, part_stored, part_in, number_stored}
use Rattle.exports_parts.specs.Questions.{stored_number}

-- how many rows there are is told where the index is made; with 31 and 38 nothing is stored
abbrev pub MadeBack : Type 0
MadeBack =
    (s before : List ℕ) (numbers : ℕ)
    → let m = made s numbers in
    (answer_in (answer_word m.answer) ≡ m.answer)
    × (m.answer.number ≡ 0 → stored_number (number_stored before m.answer m.rows) ≡ m.rows)

abbrev pub RowBack : Type 0
RowBack =
    (t before : List ℕ) (n : ℕ)
    → let r = row_by_index t n in
    (answer_in (answer_word (answer_of r.number)) ≡ answer_of r.number)
    × (r.number ≡ 0 → stored_number (number_stored before (answer_of r.number) r.before) ≡ r.before)

abbrev pub IndexValueBack : Type 0
IndexValueBack =
    (s t before : List ℕ) (n section : ℕ) (line : LineNo) (column : ℕ)
    → let v = value_by_index s t n section line column in
    value_answer_in (answer_word (value_answer v)) (value_stored before v) ≡ v

abbrev pub IndexHeadingBack : Type 0
IndexHeadingBack =
    (s t before : List ℕ) (n section column : ℕ)
    → let p = heading_by_index s t n section column in
    part_in (answer_word p.answer) (part_stored before p) ≡ p

abbrev pub IndexUnitBack : Type 0
IndexUnitBack =
    (s t before : List ℕ) (n section column : ℕ)
    → let p = unit_by_index s t n section column in
    part_in (answer_word p.answer) (part_stored before p) ≡ p

abbrev pub IndexPassageBack : Type 0
IndexPassageBack =
    (s t before : List ℕ) (n : ℕ) (keyword : List ℕ) (pointer : ℕ)
    → let p = passage_by_index s t n keyword pointer in
    part_in (answer_word p.answer) (part_stored before p) ≡ p
