-- The answers to questions as calls give them (document 01):
--
--   "31 entry refused (its refusal, record and column beside it, zeros with any other answer)"
--   "Value gives blank or number. Heading and unit are handed back as a part of the caller's entry, ten columns, the
--   heading's pointer beside either; a passage likewise, whole records. A refused part is empty, its pointer blank; a
--   refused value is blank beside its number." "A refused call stores nothing."
--
-- That no answer about an entry is lost are the laws `value-back`, `heading-back`, `unit-back`, `passage-back` and
-- `copied-back`.
use Rattle.std.specs.Prelude.{cond, List, [], ◌∷◌, ℕ, eqb, leb, length, get_or}
use Rattle.paper_number.specs.Grammar.{blanks}
use Rattle.paper_number.specs.declared.types.Reading.TheVariants.{Blank}
use Rattle.paper_entry.specs.declared.types.Answer.{Answer}
use Rattle.paper_entry.specs.Answer.{answer_of}
use Rattle.paper_questions.specs.declared.types.ValueAnswer.{ValueAnswer}
use Rattle.paper_questions.specs.declared.types.PartAnswer.{PartAnswer}
use Rattle.paper_questions.specs.PartAnswers.{no_part}
use Rattle.exports_words.specs.Words.{answer_in, lent_after}
use Rattle.exports_values.specs.Values.{reading_answer, reading_stored, reading_in}

-- ---- a value: the number of its question, and where that is 0 the one of its field

unfoldable pub value_answer : ValueAnswer → Answer
value_answer v = cond (eqb v.answer.number 0) (reading_answer v.value) v.answer

unfoldable pub value_stored : List ℕ → ValueAnswer → List ℕ
value_stored before v =
    lent_after v.answer.number before (reading_stored before (record { reading = v.value; digits = v.digits }))

-- ---- a part: its first byte, counted from 0, its length and the pointer

unfoldable pub part_stored : List ℕ → PartAnswer → List ℕ
part_stored before p = lent_after p.answer.number before (p.first ∷ p.length ∷ p.pointer ∷ [])

-- ---- one number

unfoldable pub number_stored : List ℕ → Answer → ℕ → List ℕ
number_stored before a n = lent_after a.number before (n ∷ [])

-- "keyword place (ten bytes)": bytes that are not ten are none; they are asked for as the blank place, under which no
-- passage stands (the laws `no_place`, `no-place-by-index`)
unfoldable pub keyword_place : List ℕ → List ℕ
keyword_place k = cond (eqb (length k) 10) k (blanks 10)

-- ---- the answers that a word and an array say: what a host does with them

-- a question is refused by 31 and up; any other word is that of a field
unfoldable pub value_answer_in : ℕ → List ℕ → ValueAnswer
value_answer_in w xs =
    cond (leb 31 (answer_in w).number) (record { answer = answer_in w; value = Blank; digits = 0 })
    (record { answer = answer_of 0; value = (reading_in w xs).reading; digits = (reading_in w xs).digits })

abbrev pub stored_number : List ℕ → ℕ
stored_number xs = get_or xs 0 0

unfoldable pub part_in : ℕ → List ℕ → PartAnswer
part_in w xs =
    cond (eqb (answer_in w).number 0)
    (record { answer = answer_of 0; first = get_or xs 0 0; length = get_or xs 1 0; pointer = get_or xs 2 0 })
    (no_part (answer_in w))
