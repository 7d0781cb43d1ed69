-- A passage from a row, said with no search, for any bytes and any numbers (document 02, M-102):
--
--   "for a passage, BIB's counted records up to its end; 39 meets the first read that lies outside the entry"
--
-- The definition (`passage_from_row` in paper_index) goes by searches over the text records that lie inside the entry. Here
-- is what it hands back: a part exactly where the text records hold such a passage, 36 exactly where they hold none, and
-- 39 exactly where reading leaves the entry. Text records are counted from 0.
use Rattle.std.specs.Prelude.{ℕ, ◌+◌, ◌-◌, ◌*◌, ◌<◌, ◌≤◌, ◌≡◌, true, false, List, ◌↔◌, ◌⊎◌, length}
use Rattle.paper_record.specs.Identifier.{BIB}
use Rattle.paper_record.specs.Word.{equal_to, pointer_of}
use Rattle.paper_record.specs.declared.types.RecordNo.{RecordNo}
use Rattle.paper_rules.specs.Limits.{MOST-RECORDS}
use Rattle.paper_entry.specs.Answer.{first_of, answer_of}
use Rattle.paper_questions.specs.declared.types.Row.{Row}
use Rattle.paper_questions.specs.declared.types.PartAnswer.{PartAnswer}
use Rattle.paper_questions.specs.Passage.{text_at, has_keyword, begins}
use Rattle.paper_questions.specs.PartAnswers.{no_part}
use Rattle.paper_index.specs.Reads.{read_refusals}
use Rattle.paper_index.specs.PassageAnswers.{texts_counted, passage_from_row}

-- ---- the text records behind BIB; `texts_counted` is N2 of BIB's own record

-- the text record i lies inside the entry
pub record TextInside (s : List ℕ) (bib : RecordNo) (i : ℕ) : Type 0 where
  pub bytes : (bib.0 + (i + 1)) * 81 ≤ length s
  pub few : bib.0 + (i + 1) ≤ MOST-RECORDS

-- it stands under the keyword: the last that has one, up to it, bears this one
pub record Under (s : List ℕ) (bib : RecordNo) (keyword : List ℕ) (i : ℕ) : Type 0 where
  pub at : ℕ
  pub before : at ≤ i
  pub own : has_keyword (text_at s bib at) ≡ true
  pub same : equal_to 10 (text_at s bib at) keyword ≡ true
  pub last : (j : ℕ) → at < j → j ≤ i → has_keyword (text_at s bib j) ≡ false

-- it begins a passage with this keyword and this pointer
pub record Begins (s : List ℕ) (bib : RecordNo) (keyword : List ℕ) (pointer i : ℕ) : Type 0 where
  pub under : Under s bib keyword i
  pub begun : begins (text_at s bib i) ≡ true
  pub pointed : pointer_of (text_at s bib i) ≡ pointer

-- ---- the passage: from the text record i up to, not with, the text record `past`

pub record Run (s : List ℕ) (bib : RecordNo) (keyword : List ℕ) (pointer i past : ℕ) : Type 0 where
  pub some : i < past
  pub counted : past ≤ texts_counted s bib
  pub inside : (j : ℕ) → j < past → TextInside s bib j
  pub begun : Begins s bib keyword pointer i
  pub earliest : (j : ℕ) → j < i → Begins s bib keyword pointer j → ⊥
  pub whole : (j : ℕ) → i < j → j < past → begins (text_at s bib j) ≡ false
  pub ends : (past ≡ texts_counted s bib) ⊎ (TextInside s bib past × (begins (text_at s bib past) ≡ true))

-- "a passage likewise, whole records"
abbrev pub run_part : RecordNo → ℕ → ℕ → ℕ → PartAnswer
run_part bib pointer i past =
    record { answer = answer_of 0; first = (bib.0 + i) * 81; length = (past - i) * 81; pointer = pointer }

-- BIB counts a text record that lies outside, and no passage ends before it
pub record ReadOutside (s : List ℕ) (bib : RecordNo) (keyword : List ℕ) (pointer : ℕ) : Type 0 where
  pub at : ℕ
  pub counted : at < texts_counted s bib
  pub outside : TextInside s bib at → ⊥
  pub none : (i past : ℕ) → Run s bib keyword pointer i past → ⊥

-- ---- what is claimed

-- the refusal of the row's own reads, of its first record and of BIB; 0 where both are good
abbrev pub reads_refusal : List ℕ → Row → ℕ
reads_refusal s x = first_of (read_refusals s x x.bib BIB)

-- it comes first
abbrev pub ReadFirst : Type 0
ReadFirst =
    (s : List ℕ) (x : Row) (keyword : List ℕ) (pointer : ℕ) → (reads_refusal s x ≡ 0 → ⊥)
    → passage_from_row s x keyword pointer ≡ no_part (answer_of (reads_refusal s x))

abbrev pub RunExactly : Type 0
RunExactly =
    (s : List ℕ) (x : Row) (keyword : List ℕ) (pointer : ℕ) → reads_refusal s x ≡ 0 → (i past : ℕ)
    → (passage_from_row s x keyword pointer ≡ run_part x.bib pointer i past)
    ↔ Run s x.bib keyword pointer i past

-- an answer with the number 0 is such a part
abbrev pub RunAnswered : Type 0
RunAnswered =
    (s : List ℕ) (x : Row) (keyword : List ℕ) (pointer : ℕ) → reads_refusal s x ≡ 0
    → (passage_from_row s x keyword pointer).answer.number ≡ 0
    → (i : ℕ) × ((past : ℕ) × Run s x.bib keyword pointer i past)

-- "36 no passage with that keyword place (ten bytes) and pointer byte": all are read, and none begins it
abbrev pub NoneExactly : Type 0
NoneExactly =
    (s : List ℕ) (x : Row) (keyword : List ℕ) (pointer : ℕ) → reads_refusal s x ≡ 0
    → (passage_from_row s x keyword pointer ≡ no_part (answer_of 36))
    ↔ ((j : ℕ) → j < texts_counted s x.bib → TextInside s x.bib j × (Begins s x.bib keyword pointer j → ⊥))

-- "39 meets the first read that lies outside the entry"
abbrev pub OutsideExactly : Type 0
OutsideExactly =
    (s : List ℕ) (x : Row) (keyword : List ℕ) (pointer : ℕ) → reads_refusal s x ≡ 0
    → (passage_from_row s x keyword pointer ≡ no_part (answer_of 39)) ↔ ReadOutside s x.bib keyword pointer
