-- Code j of a passage under DECAY-DATA (document 02, M-106):
--
--   "Asked by subentry, pointer and j [..]. Refusals: 31, 32, 33, 36 (also for no code j), then the first met of 50
--   character no code can have there (record and column; passage ended: next record, column 0) and 51 break after no
--   comma (the character before it); 52 slice shorter than the run."
use Rattle.std.specs.Prelude.{cond, List, [], ◌∷◌, ℕ, ◌+◌, ◌/◌, eqb, ltb, length}
use Prim.Native.String.{String}
use Rattle.std.proofs.Math.Seq.{paste}
use Rattle.paper_record.specs.Text.{within, text}
use Rattle.paper_entry.specs.declared.types.Answer.{Answer}
use Rattle.paper_questions.specs.Ask.{passage_asked}
use Rattle.paper_questions.specs.PartAnswers.{bytes_in}
use Rattle.paper_questions.specs.declared.types.PartAnswer.{PartAnswer}
use Rattle.paper_decay.specs.Records.{said, scan_records}
use Rattle.paper_decay.specs.declared.types.Coded.{Coded}
use Rattle.paper_decay_run.specs.Text.{code_text}
use Rattle.paper_decay_run.specs.Run.{run_text}
use Rattle.paper_codes.specs.declared.types.CodeIn.{CodeIn}
use Rattle.paper_codes.specs.declared.types.CodeAnswer.{CodeAnswer}
use Rattle.paper_codes.specs.Opening.{records_of, opening_of}

-- ---- in a passage

-- "36 (also for no code j)", 50, 51, or 0 with the place where it closes
unfoldable pub coded_in : List ℕ → ℕ → Coded
coded_in p j =
    cond (ltb (opening_of p j) (records_of p)) (scan_records p (opening_of p j) (records_of p)) (said 36 0 0)

-- "as one run"
unfoldable pub run_in : List ℕ → ℕ → List ℕ
run_in p j = run_text (code_text p (opening_of p j) (coded_in p j))

abbrev pub code_is : ℕ → ℕ → ℕ → ℕ → CodeIn
code_is number at column length = record { number = number; at = at; column = column; length = length }

-- "52 slice shorter than the run"
abbrev pub closed_in : ℕ → ℕ → CodeIn
closed_in long room = cond (ltb room long) (code_is 52 0 0 0) (code_is 0 0 0 long)

unfoldable pub code_in : List ℕ → ℕ → ℕ → CodeIn
code_in p j room =
    cond (eqb (coded_in p j).number 0) (closed_in (length (run_in p j)) room)
    (code_is (coded_in p j).number (coded_in p j).at (coded_in p j).column 0)

-- the lent bytes: the run in front, and nothing where the call is refused
unfoldable pub stored_in : List ℕ → ℕ → List ℕ → List ℕ
stored_in p j x = cond (eqb (code_in p j (length x)).number 0) (paste x 0 (run_in p j) (length (run_in p j))) x

-- ---- in an entry

-- "the codes under DECAY-DATA"
abbrev pub DECAY-DATA : List ℕ
DECAY-DATA = text "DECAY-DATA"

-- "record and column" of 50 and 51, counted from 1, behind so many records of the entry; zeros with any other
abbrev pub answer_in : ℕ → CodeIn → Answer
answer_in before x =
    cond (within 50 51 x.number)
    (record { number = x.number; refusal = 0; «record» = record { 0 = before + x.at + 1 }; column = x.column; ordinal = 0 })
    (record { number = x.number; refusal = 0; «record» = record { 0 = 0 }; column = 0; ordinal = 0 })

abbrev pub answered : ℕ → CodeIn → CodeAnswer
answered before x = record { answer = answer_in before x; length = x.length }

abbrev pub passage_at : List ℕ → ℕ → ℕ → PartAnswer
passage_at s n pointer = passage_asked s n DECAY-DATA pointer

unfoldable pub code_asked : List ℕ → ℕ → ℕ → ℕ → ℕ → CodeAnswer
code_asked s n pointer j room =
    let w : PartAnswer = passage_at s n pointer in
    cond (eqb w.answer.number 0) (answered (w.first / 81) (code_in (bytes_in s w) j room))
    (record { answer = w.answer; length = 0 })

unfoldable pub code_stored : List ℕ → ℕ → ℕ → ℕ → List ℕ → List ℕ
code_stored s n pointer j x =
    let w : PartAnswer = passage_at s n pointer in
    cond (eqb w.answer.number 0) (stored_in (bytes_in s w) j x) x
