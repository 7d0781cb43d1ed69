-- What is claimed of the words and arrays of a question and of the copy: they say all of the answer, for every entry and
-- whatever the array held. Each type is that of a law in proofs/ValuesBack and PartsBack, under the law's name.
use Rattle.std.specs.Prelude.{ℕ, ◌≡◌, List}
use Rattle.paper_record.specs.declared.types.LineNo.{LineNo}
use Rattle.paper_questions.specs.Ask.{value_asked, heading_asked, unit_asked, passage_asked}
use Rattle.paper_copy.specs.Call.{copied}
use Rattle.exports_words.specs.Words.{answer_word, answer_in}
use Rattle.exports_parts.specs.Questions.{value_answer, value_stored, value_answer_in, part_stored, part_in}

abbrev pub ValueBack : Type 0
ValueBack =
    (s before : List ℕ) (n section : ℕ) (line : LineNo) (column : ℕ)
    → let v = value_asked s n section line column in
    value_answer_in (answer_word (value_answer v)) (value_stored before v) ≡ v

abbrev pub HeadingBack : Type 0
HeadingBack =
    (s before : List ℕ) (n section column : ℕ)
    → let p = heading_asked s n section column in
    part_in (answer_word p.answer) (part_stored before p) ≡ p

abbrev pub UnitBack : Type 0
UnitBack =
    (s before : List ℕ) (n section column : ℕ)
    → let p = unit_asked s n section column in
    part_in (answer_word p.answer) (part_stored before p) ≡ p

abbrev pub PassageBack : Type 0
PassageBack =
    (s before : List ℕ) (n : ℕ) (keyword : List ℕ) (pointer : ℕ)
    → let p = passage_asked s n keyword pointer in
    part_in (answer_word p.answer) (part_stored before p) ≡ p

abbrev pub CopiedBack : Type 0
CopiedBack = (s : List ℕ) (room : ℕ) → answer_in (answer_word (copied s room)) ≡ copied s room
