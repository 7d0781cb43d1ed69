-- Demand 3 of the mission, for codes: "For an accepted entry, every question inside its own shape is answered." What a
-- question for a code is inside of is said by passages, openings and the grammar: a passage under DECAY-DATA, its j-th
-- record with ( in column 12, and a code that is laid out in the records from there on.
use Rattle.std.specs.Prelude.{ℕ, ◌≤◌, ◌<◌, ◌≡◌, List, ◌↔◌, ◌⊎◌, length}
use Rattle.std.proofs.Math.Seq.{paste}
use Rattle.paper_record.specs.Text.{text}
use Rattle.paper_entry.specs.Judging.{Accepted}
use Rattle.paper_questions.specs.declared.types.PartAnswer.{PartAnswer}
use Rattle.paper_questions.specs.Ask.{passage_asked}
use Rattle.paper_questions.specs.PartAnswers.{bytes_in}
use Rattle.inside.specs.Inside.{InsidePassage}
use Rattle.paper_decay.specs.Code.{Code, write, Good}
use Rattle.paper_decay.specs.Fields.{run_of}
use Rattle.paper_decay.specs.Laid.{texts_of, Laid}
use Rattle.paper_codes.specs.declared.types.CodeAnswer.{CodeAnswer}
use Rattle.paper_codes.specs.Opening.{records_of, Opening}
use Rattle.paper_codes.specs.Asked.{code_asked, code_stored}

-- the passage, and its bytes; that these are the passage's records is `PassageAnswered` (inside)
abbrev pub decay_passage : List ℕ → ℕ → ℕ → PartAnswer
decay_passage s n pointer = passage_asked s n (text "DECAY-DATA") pointer

abbrev pub decay_bytes : List ℕ → ℕ → ℕ → List ℕ
decay_bytes s n pointer = bytes_in s (decay_passage s n pointer)

pub record InsideCode (s : List ℕ) (n pointer j : ℕ) : Type 0 where
  pub passage : InsidePassage s n (text "DECAY-DATA") pointer
  pub index : ℕ
  pub opens : Opening (decay_bytes s n pointer) j index
  pub code : Code
  pub good : Good code
  pub laid : Laid (texts_of (decay_bytes s n pointer) index (records_of (decay_bytes s n pointer))) (write code)

-- ---- what is claimed

-- 0, with nothing beside it but how long the run is
abbrev pub given : ℕ → CodeAnswer
given long =
    record {
      answer = record { number = 0; refusal = 0; «record» = record { 0 = 0 }; column = 0; ordinal = 0 };
      length = long;
    }

-- every code is answered by its own run, which stands in front of what is lent; every other byte stays
abbrev pub CodeAnswered : Type 0
CodeAnswered =
    (s : List ℕ) (n pointer j : ℕ) → Accepted s → (x : InsideCode s n pointer j)
    → ((room : ℕ) → length (run_of x.code) ≤ room
    → code_asked s n pointer j room ≡ given (length (run_of x.code)))
    × ((y : List ℕ) → length (run_of x.code) ≤ length y
    → code_stored s n pointer j y ≡ paste y 0 (run_of x.code) (length (run_of x.code)))

-- and no other question is answered
abbrev pub CodeInside : Type 0
CodeInside =
    (s : List ℕ) (n pointer j room : ℕ) → (code_asked s n pointer j room).answer.number ≡ 0
    → Accepted s × ((x : InsideCode s n pointer j) × (length (run_of x.code) ≤ room))

-- a question has one code
abbrev pub OneCode : Type 0
OneCode = (s : List ℕ) (n pointer j : ℕ) (x y : InsideCode s n pointer j) → x.code ≡ y.code

-- ---- the refusals, both ways

-- "52 slice shorter than the run"
abbrev pub CodeShort : Type 0
CodeShort =
    (s : List ℕ) (n pointer j room : ℕ)
    → ((code_asked s n pointer j room).answer.number ≡ 52)
    ↔ (Accepted s × ((x : InsideCode s n pointer j) × (room < length (run_of x.code))))

-- "36 (also for no code j)": there is no such passage, or no j-th record of it opens a code
abbrev pub CodeNone : Type 0
CodeNone =
    (s : List ℕ) (n pointer j room : ℕ)
    → ((code_asked s n pointer j room).answer.number ≡ 36)
    ↔ (Accepted s
    × (((decay_passage s n pointer).answer.number ≡ 36)
    ⊎ (InsidePassage s n (text "DECAY-DATA") pointer × ((i : ℕ) → Opening (decay_bytes s n pointer) j i → ⊥))))

-- "31, 32, 33": exactly where the passage is refused so, and then with the same answer
abbrev pub CodeRefused : Type 0
CodeRefused =
    (s : List ℕ) (n pointer j room k : ℕ) → 31 ≤ k → k ≤ 33
    → (((code_asked s n pointer j room).answer.number ≡ k) ↔ ((decay_passage s n pointer).answer.number ≡ k))
    × ((decay_passage s n pointer).answer.number ≡ k
    → code_asked s n pointer j room ≡ record { answer = (decay_passage s n pointer).answer; length = 0 })

-- whatever it is refused for: no byte is stored
abbrev pub StoresNothing : Type 0
StoresNothing =
    (s : List ℕ) (n pointer j : ℕ) (y : List ℕ) → ((code_asked s n pointer j (length y)).answer.number ≡ 0 → ⊥)
    → code_stored s n pointer j y ≡ y
