-- What is claimed of the index (document 02, M-102):
--
--   "For an accepted entry and the index made for it, unaltered and cut to its rows, every answer equals the full one."
use Rattle.std.specs.Prelude.{ℕ, ◌*◌, ◌/◌, ◌%◌, ◌<◌, ◌≤◌, ◌≡◌, List, ◌++◌, ◌↔◌, length, get_or, drop}
use Rattle.paper_record.specs.declared.types.LineNo.{LineNo}
use Rattle.paper_entry.specs.Judging.{judge_of, Accepted}
use Rattle.paper_entry.specs.Answer.{answer_of, answer_for}
use Rattle.paper_questions.specs.Row.{empty_row}
use Rattle.paper_questions.specs.Located.{row_of}
use Rattle.paper_questions.specs.Ask.{value_asked, heading_asked, unit_asked, passage_asked}
use Rattle.paper_index.specs.Rows.{index_of}
use Rattle.paper_index.specs.declared.types.Made.{Made}
use Rattle.paper_index.specs.declared.types.RowAnswer.{RowAnswer}
use Rattle.paper_index.specs.Making.{rows_in, made, stored_index}
use Rattle.paper_index.specs.TableAnswers.{value_from_row, heading_from_row, unit_from_row}
use Rattle.paper_index.specs.PassageAnswers.{passage_from_row}
use Rattle.paper_index.specs.Asked.{value_found, part_found}
use Rattle.paper_index.specs.ByIndex.{row_in, row_by_index}
use Rattle.paper_index.specs.ByIndex.{value_by_index, heading_by_index, unit_by_index, passage_by_index}

-- ---- one body of questions: the full one is answered from the row, by the same definition as one by an index

abbrev pub ValueByRow : Type 0
ValueByRow =
    (s : List ℕ) (n section : ℕ) (line : LineNo) (column : ℕ)
    → value_asked s n section line column
    ≡ value_found (judge_of s) (row_of s n) (value_from_row s (row_of s n) section line column)

abbrev pub HeadingByRow : Type 0
HeadingByRow =
    (s : List ℕ) (n section column : ℕ)
    → heading_asked s n section column
    ≡ part_found (judge_of s) (row_of s n) (heading_from_row s (row_of s n) section column)

abbrev pub UnitByRow : Type 0
UnitByRow =
    (s : List ℕ) (n section column : ℕ)
    → unit_asked s n section column ≡ part_found (judge_of s) (row_of s n) (unit_from_row s (row_of s n) section column)

abbrev pub PassageByRow : Type 0
PassageByRow =
    (s : List ℕ) (n : ℕ) (keyword : List ℕ) (pointer : ℕ)
    → passage_asked s n keyword pointer
    ≡ part_found (judge_of s) (row_of s n) (passage_from_row s (row_of s n) keyword pointer)

-- ---- the index made for an accepted entry

-- five numbers to a subentry
abbrev pub IndexLength : Type 0
IndexLength = (s : List ℕ) → Accepted s → length (index_of s) ≡ 5 * rows_in s

abbrev pub SameValue : Type 0
SameValue =
    (s : List ℕ) → Accepted s → (n section : ℕ) (line : LineNo) (column : ℕ)
    → value_by_index s (index_of s) n section line column ≡ value_asked s n section line column

abbrev pub SameHeading : Type 0
SameHeading =
    (s : List ℕ) → Accepted s → (n section column : ℕ)
    → heading_by_index s (index_of s) n section column ≡ heading_asked s n section column

abbrev pub SameUnit : Type 0
SameUnit =
    (s : List ℕ) → Accepted s → (n section column : ℕ)
    → unit_by_index s (index_of s) n section column ≡ unit_asked s n section column

abbrev pub SamePassage : Type 0
SamePassage =
    (s : List ℕ) → Accepted s → (n : ℕ) (keyword : List ℕ) (pointer : ℕ)
    → passage_by_index s (index_of s) n keyword pointer ≡ passage_asked s n keyword pointer

-- ---- any numbers: the row that is found

-- "it takes the first row with that number"; "38 not whole rows", "32 no such subentry"
pub data RowTaken (t : List ℕ) (n : ℕ) : RowAnswer → Type 0 where
  not_whole : (length t % 5 ≡ 0 → ⊥) → RowTaken t n (record { number = 38; before = 0; row = empty_row n })
  none : length t % 5 ≡ 0 → ((i : ℕ) → i < length t / 5 → get_or t (i * 5) 0 ≡ n → ⊥)
      → RowTaken t n (record { number = 32; before = 0; row = empty_row n })
  found : length t % 5 ≡ 0 → (i : ℕ) → i < length t / 5 → get_or t (i * 5) 0 ≡ n
      → ((j : ℕ) → j < i → get_or t (j * 5) 0 ≡ n → ⊥)
      → RowTaken t n (record { number = 0; before = i; row = row_in t i })

abbrev pub RowExactly : Type 0
RowExactly = (t : List ℕ) (n : ℕ) (a : RowAnswer) → (row_by_index t n ≡ a) ↔ RowTaken t n a

-- ---- any entry and any slice: what making answers, and the slice afterwards

-- "making, 31, then 38 slice too short for the rows (numbers past them stay)"; "A refused call stores nothing."
pub data MadeSaid (s t : List ℕ) : Made → List ℕ → Type 0 where
  refused : (Accepted s → ⊥) → MadeSaid s t (record { answer = answer_for (judge_of s) 31; rows = rows_in s }) t
  too_short : Accepted s → length t < 5 * rows_in s → MadeSaid s t (record { answer = answer_of 38; rows = rows_in s }) t
  stored : Accepted s → 5 * rows_in s ≤ length t
      → MadeSaid s t (record { answer = answer_of 0; rows = rows_in s }) (index_of s ++ drop (length (index_of s)) t)

abbrev pub MadeExactly : Type 0
MadeExactly =
    (s t : List ℕ) (m : Made) (after : List ℕ)
    → ((made s (length t) ≡ m) × (stored_index s t ≡ after)) ↔ MadeSaid s t m after
