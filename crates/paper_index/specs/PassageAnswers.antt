-- A passage answered from a row, whatever bytes and numbers these are (document 02, M-102):
--
--   "for a passage, BIB's counted records up to its end; 39 meets the first read that lies outside the entry"
--
-- The text records are read one by one up to the passage's end: the record that begins the next passage, or the last one
-- counted. They are compared as bytes, columns 1 to 10 and 11.
use Rattle.std.specs.Prelude.{ℕ, zero, suc, ◌+◌, ◌-◌, ◌*◌, ◌/◌, Bool, false, cond, ◌&&◌, List, [], ◌∷◌, ◌++◌, eqb, leb, ltb, length}
use Rattle.laws.specs.Search.{first}
use Rattle.paper_record.specs.Identifier.{BIB}
use Rattle.paper_record.specs.Word.{equal_to}
use Rattle.paper_record.specs.declared.types.RecordNo.{RecordNo}
use Rattle.paper_rules.specs.Limits.{MOST-RECORDS}
use Rattle.paper_rules.specs.Counts.{count_n2}
use Rattle.paper_entry.specs.Answer.{Refusal, refusal, first_of}
use Rattle.paper_questions.specs.declared.types.Row.{Row}
use Rattle.paper_questions.specs.declared.types.PartAnswer.{PartAnswer}
use Rattle.paper_questions.specs.Place.{fields_at, first_byte}
use Rattle.paper_questions.specs.Passage.{text_record, text_at, has_keyword, begins, begins_with, first_text}
use Rattle.paper_index.specs.Reads.{read_refusals}
use Rattle.paper_index.specs.TableAnswers.{part_beside}

-- the lesser of two
abbrev pub least : ℕ → ℕ → ℕ
least a b = cond (leb a b) a b

-- ---- the text records that can be read

-- how many records lie inside the entry
abbrev pub records_held : List ℕ → ℕ
records_held s = least (length s / 81) MOST-RECORDS

-- BIB's counted records, and how many of them lie inside
abbrev pub texts_counted : List ℕ → RecordNo → ℕ
texts_counted s bib = count_n2 (fields_at s bib)

abbrev pub texts_held : List ℕ → RecordNo → ℕ
texts_held s bib = least (texts_counted s bib) (records_held s - bib.0)

-- ---- the passage among the first n text records

-- whether the keyword that was met last among so many text records is this one
unfoldable pub is_under : List ℕ → RecordNo → List ℕ → ℕ → Bool
is_under s bib keyword zero = false
is_under s bib keyword (suc i) =
    cond (has_keyword (text_at s bib i)) (equal_to 10 (text_at s bib i) keyword) (is_under s bib keyword i)

-- the text record i begins the passage with this keyword and this pointer
abbrev pub begins_at : List ℕ → RecordNo → List ℕ → ℕ → ℕ → Bool
begins_at s bib keyword pointer i = is_under s bib keyword (suc i) && begins_with pointer (text_at s bib i)

-- the first that does, n where none does
unfoldable pub begun_at : List ℕ → RecordNo → List ℕ → ℕ → ℕ → ℕ
begun_at s bib keyword pointer n = first (begins_at s bib keyword pointer) 0 n

-- behind the text record p, the first that begins any passage, n where none does
unfoldable pub ended_at : List ℕ → RecordNo → ℕ → ℕ → ℕ
ended_at s bib p n = cond (ltb p n) (first_text s bib begins (p + 1) n) n

-- ---- the answer

-- 39: the records inside the entry are read, more are counted, and the passage has not ended; 36: none begins it
abbrev pub passage_refusals : List ℕ → RecordNo → ℕ → ℕ → List Refusal
passage_refusals s bib from past =
    let held = texts_held s bib in
    refusal 39 (ltb held (texts_counted s bib) && eqb past held) ∷ refusal 36 (eqb from held) ∷ []

unfoldable pub passage_from_row : List ℕ → Row → List ℕ → ℕ → PartAnswer
passage_from_row s x keyword pointer =
    let bib = x.bib in
    let from = begun_at s bib keyword pointer (texts_held s bib) in
    let past = ended_at s bib from (texts_held s bib) in
    part_beside s (first_of (read_refusals s x bib BIB ++ passage_refusals s bib from past))
    (first_byte (text_record bib from)) ((past - from) * 81) pointer
