-- No answer for a code is lost: it comes back from the word and the lent number, and its run from the lent bytes.
-- Assumes nothing.
use Prim.Native.Nat.{ℕ, ◌+◌, ◌*◌, ◌/◌, ◌^◌, ◌≤◌, ◌<◌}
use mathlib.Core.Path.{◌≡◌, refl, sym, ap, ◌∙◌}
use mathlib.Core.Bool.{Bool, true, false, cond}
use mathlib.Core.List.{List, [], ◌∷◌, ◌++◌}
use native.Mathlib.Omega.{arith}
use native.Mathlib.Nat.{min-le_right}
use borrow.Author.Tests.{eqb-true, eqb-false}
use lib.Dec.{eqb, ltb, leb}
use lib.ListN.{length, take, drop, length-take, length-drop}
use lib.Seq.{take-length, take-paste, drop-paste}
use Rattle.laws.proofs.EitherWay.{either_way}
use Rattle.laws.proofs.Search.{either}
use Rattle.paper_record.specs.Text.{within}
use Rattle.paper_rules.specs.Limits.{MOST-RECORDS}
use Rattle.paper_entry.specs.Answer.{refusal, first_of}
use Rattle.paper_entry.specs.Judging.{judge_of}
use Rattle.paper_entry.proofs.Lengths.{accepted-good, whole-records}
use Rattle.paper_questions.specs.declared.types.PartAnswer.{PartAnswer}
use Rattle.paper_questions.specs.Located.{row_of}
use Rattle.paper_questions.specs.Passage.{passage_of}
use Rattle.paper_questions.specs.Refused.{passage_refusal, section_refusals, no_passage}
use Rattle.paper_questions.specs.PartAnswers.{passage_by, part_with, bytes_in}
use Rattle.paper_questions.specs.Ask.{passage_asked}
use Rattle.paper_questions.proofs.Parts.{passage-lies}
use Rattle.inside.proofs.PassageAsked.{passage-asked}
use Rattle.paper_codes.specs.declared.types.CodeIn.{CodeIn}
use Rattle.paper_codes.specs.declared.types.CodeAnswer.{CodeAnswer}
use Rattle.paper_codes.specs.Opening.{records_of, opening_of}
use Rattle.paper_codes.specs.Asked.{coded_in, run_in, code_is, code_in, DECAY-DATA, answered, passage_at, code_asked, code_stored}
use Rattle.paper_codes.specs.Asked.{answer_in as answer_of_code}
use Rattle.paper_codes.proofs.Closed.{Said, closed, impossible, broken, scan-reaches}
use Rattle.paper_codes.proofs.Answers.{coded-there, coded_none, stored-closed, in-reaches}
use Rattle.paper_codes.proofs.Asked.{asked-refused, asked_in, in-stored}
use Rattle.exports_words.specs.Words.{lent_after}
use Rattle.exports_parts.specs.Questions.{number_stored}
use Rattle.exports_back.proofs.Laws.{Fits, word_back, plain_fits, answer-fits}
use Rattle.exports_back.proofs.Refusals.{Numbered, one, section-numbered}
use Rattle.exports_runs.specs.Codes.{code_word, length_stored}
use Rattle.exports_runs.proofs.Rooms.{number-in}
use Rattle.decay_back.specs.Host.{code_said}
use Rattle.decay_back.specs.Claims.{CodeBack, CodeInBack, RunBack, RunInBack}

-- ---- an answer that fits its word, and has a length where it is answered alone

told : (a : CodeAnswer) (long : List ℕ) → Fits a.answer → ((a.answer.number ≡ 0 → ⊥) → a.length ≡ 0)
    → code_said (code_word a) (length_stored long a) ≡ a
unfolding code_said code_word length_stored number_stored lent_after
told a long f z = by_number (eqb a.answer.number 0) refl
  where
    by_number : (b : Bool) → eqb a.answer.number 0 ≡ b → code_said (code_word a) (length_stored long a) ≡ a
    by_number true e = rw (word_back a.answer f, e) refl
    by_number false e =
        let none = z (eqb-false a.answer.number 0 e) in
        rw (word_back a.answer f, e) (λ t. record { answer = a.answer; length = sym none t })

-- ---- in a passage

said-few : (n : ℕ) → Said n → n ≤ 52
said-few n (closed e) = omega arith
said-few n (impossible e) = omega arith
said-few n (broken e) = omega arith

module _ (p : List ℕ) (j room : ℕ) where
  abbrev x : CodeIn
  x = code_in p j room

  coded-few : (coded_in p j).number ≤ 52
  coded-few =
      either (opening_of p j) (records_of p)
      (λ h.
      rw (coded-there p j h)
      (said-few _ (scan-reaches p (opening_of p j) (records_of p) (omega arith)).said-so))
      (λ h. rw (coded_none p j h) (omega arith))

  -- its number is small, and its length is that of the run where it is answered
  abbrev Sized : CodeIn → Type 0
  Sized x =
      (x.number ≤ 52)
      × (((x.number ≡ 0 → ⊥) → x.length ≡ 0) × (x.number ≡ 0 → x.length ≡ length (run_in p j)))

  in-sized : Sized x
  unfolding code_in
  in-sized = by_tests (eqb (coded_in p j).number 0) refl (ltb room (length (run_in p j)))
    where
      by_tests : (a : Bool) → eqb (coded_in p j).number 0 ≡ a → (b : Bool)
          → Sized
          (cond a (cond b (code_is 52 0 0 0) (code_is 0 0 0 (length (run_in p j))))
          (code_is (coded_in p j).number (coded_in p j).at (coded_in p j).column 0))
      by_tests true e true = (omega arith, (λ h. refl, λ z. absurd (omega arith)))
      by_tests true e false = (omega arith, (λ h. absurd (h refl), λ z. refl))
      by_tests false e b = (coded-few, (λ h. refl, λ z. absurd (eqb-false (coded_in p j).number 0 e z)))

  in-fits : (before : ℕ) → before + x.at + 1 < 2 ^ 24 → Fits (answer_of_code before x)
  in-fits before h =
      let few = in-sized.0 in
      let wide = (in-reaches p j room).1 in
      either_way Fits (within 50 51 x.number) _ _
      (record {
        number = omega arith;
        beside = record { number = omega arith; «record» = h; column = omega arith; whose = omega arith };
      })
      (plain_fits x.number (omega arith))

  answered-back : (before : ℕ) (long : List ℕ) → before + x.at + 1 < 2 ^ 24
      → code_said (code_word (answered before x)) (length_stored long (answered before x)) ≡ answered before x
  answered-back before long h =
      told (answered before x) long (in-fits before h)
      (λ z. in-sized.1.0 (λ e. z (number-in before x ∙ e)))

pub code-in-back : CodeInBack
code-in-back p long j room h =
    let at = (in-reaches p j room).0 in
    answered-back p j room 0 long (omega arith)

pub run-in-back : RunInBack
run-in-back p out j z =
    let r = run_in p j in
    let none : length r ≡ 0 + length r = omega arith in
    let long : (code_in p j (length out)).length ≡ 0 + length r = (in-sized p j (length out)).1.1 z ∙ none in
    let stored = stored-closed p j out z in
    rw (long, stored) (
      take-paste out 0 r (length r) (omega arith) (omega arith) ∙ take-length r,
      drop-paste out 0 r (length r) (omega arith) (omega arith),
    )

-- ---- in an entry

part-fits : (s : List ℕ) (number from bytes pointer : ℕ) → Numbered number
    → Fits (part_with s (judge_of s) number from bytes pointer).answer
part-fits s number from bytes pointer few =
    let zero = plain_fits 0 (omega arith) in
    let room = leb (from + bytes) (length s) in
    either_way (λ (p : PartAnswer). Fits p.answer) (eqb number 0) _ _
    (either_way (λ (p : PartAnswer). Fits p.answer) room _ _ zero zero) (answer-fits s number few.few)

passage-fits : (s : List ℕ) (n : ℕ) (keyword : List ℕ) (pointer : ℕ) → Fits (passage_asked s n keyword pointer).answer
unfolding passage_asked passage_by passage_refusal
passage-fits s n keyword pointer =
    let x = row_of s n in
    let p = passage_of s x.bib keyword pointer in
    let last = refusal 36 (no_passage p) ∷ [] in
    part-fits s (first_of (section_refusals s (judge_of s) x x.bib ++ last)) _ _ pointer
    (section-numbered s x x.bib last (one 36 (omega arith) (omega arith), tt))

sum : (long first bytes part at : ℕ) → long ≡ long / 81 * 81 → long / 81 ≤ MOST-RECORDS → first + bytes ≤ long
    → part ≤ long → at ≤ part / 81 → first / 81 + at + 1 < 2 ^ 24
sum long first bytes part at a b c d e = omega arith

part-shorter : (s : List ℕ) (w : PartAnswer) → length (bytes_in s w) ≤ length s
part-shorter s w =
    let a : length (bytes_in s w) ≤ length (drop w.first s) =
    rw (length-take w.length (drop w.first s)) (min-le_right w.length (length (drop w.first s))) in
    let b = length-drop w.first s in
    omega arith

-- an entry whose passage is answered has no more than 20,000 records
numbered : (s : List ℕ) (n pointer j room : ℕ) → (passage_at s n pointer).answer.number ≡ 0
    → let w = passage_at s n pointer in
    w.first / 81 + (code_in (bytes_in s w) j room).at + 1 < 2 ^ 24
unfolding passage_asked
numbered s n pointer j room z =
    let w = passage_at s n pointer in
    let few = whole-records (length s) (accepted-good s (passage-asked s n DECAY-DATA pointer z).0) in
    let p = bytes_in s w in
    sum (length s) w.first w.length (length p) (code_in p j room).at few.0 few.1
    (passage-lies s (judge_of s) (row_of s n) DECAY-DATA pointer).within (part-shorter s w) (in-reaches p j room).0

pub code-back : CodeBack
code-back s long n pointer j room = by-passage (eqb w.answer.number 0) refl
  where
    w : PartAnswer
    w = passage_at s n pointer

    by-passage : (b : Bool) → eqb w.answer.number 0 ≡ b
        → let a = code_asked s n pointer j room in
        code_said (code_word a) (length_stored long a) ≡ a
    by-passage true e =
        let z = eqb-true w.answer.number 0 e in
        rw (asked_in s n pointer j room z)
        (answered-back (bytes_in s w) j room (w.first / 81) long (numbered s n pointer j room z))
    by-passage false e =
        rw (asked-refused s n pointer j room (eqb-false w.answer.number 0 e))
        (told (record { answer = w.answer; length = 0 }) long (passage-fits s n DECAY-DATA pointer) (λ z. refl))

pub run-back : RunBack
run-back s out n pointer j = by-passage (eqb w.answer.number 0) refl
  where
    w : PartAnswer
    w = passage_at s n pointer

    p : List ℕ
    p = bytes_in s w

    by-passage : (b : Bool) → eqb w.answer.number 0 ≡ b
        → let a = code_asked s n pointer j (length out) in
        a.answer.number ≡ 0
        → (take a.length (code_stored s n pointer j out) ≡ run_in p j)
        × (drop a.length (code_stored s n pointer j out) ≡ drop a.length out)
    by-passage true e h =
        let z = eqb-true w.answer.number 0 e in
        let a = asked_in s n pointer j (length out) z in
        let x = code_in p j (length out) in
        let zero : x.number ≡ 0 =
        sym (number-in (w.first / 81) x) ∙ ap (λ (y : CodeAnswer). y.answer.number) (sym a) ∙ h in
        rw (a, in-stored s n pointer j out z) (run-in-back p out j zero)
    by-passage false e h =
        let f = eqb-false w.answer.number 0 e in
        absurd
        (f (ap (λ (y : CodeAnswer). y.answer.number) (sym (asked-refused s n pointer j (length out) f)) ∙ h))
