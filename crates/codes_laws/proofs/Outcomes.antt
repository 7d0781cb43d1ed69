-- What a question for a code comes to: one of five outcomes, each with its number.
-- Assumes nothing.
use mathlib.Core.Path.{◌≡◌, refl, ap, ◌∙◌}
use mathlib.Core.Bool.{Bool, true, false, cond, not}
use mathlib.Core.List.{List}
use Prim.Native.Nat.{ℕ, ◌/◌, ◌<◌, ◌≤◌}
use native.Mathlib.Omega.{arith}
use borrow.Author.Tests.{eqb-true, eqb-false}
use lib.Dec.{eqb}
use lib.ListN.{length}
use Rattle.laws.proofs.Search.{either}
use Rattle.laws.proofs.EitherWay.{either_way}
use Rattle.paper_record.specs.Text.{within}
use Rattle.paper_entry.specs.declared.types.Answer.{Answer}
use Rattle.paper_entry.specs.Judging.{judge_of, Accepted}
use Rattle.paper_questions.specs.Located.{row_of}
use Rattle.paper_questions.specs.Passage.{passage_of}
use Rattle.paper_questions.specs.Refused.{is_subent, no_section, no_passage, passage_refusal}
use Rattle.paper_questions.specs.PartAnswers.{passage_by}
use Rattle.paper_questions.specs.Ask.{passage_asked}
use Rattle.paper_questions.proofs.Parts.{part-number}
use Rattle.paper_decay.specs.declared.types.Coded.{Coded}
use Rattle.paper_codes.specs.declared.types.CodeIn.{CodeIn}
use Rattle.paper_codes.specs.declared.types.CodeAnswer.{CodeAnswer}
use Rattle.paper_codes.specs.Opening.{records_of, opening_of}
use Rattle.paper_codes.specs.Asked.{coded_in, run_in, code_in, answered, code_asked}
use Rattle.paper_codes.proofs.Closed.{Said, closed, impossible, broken, scan-reaches}
use Rattle.paper_codes.proofs.Answers.{coded-there, coded_none, in-refused, in-short, in-closed}
use Rattle.paper_codes.proofs.Asked.{asked-refused, asked_in}
use Rattle.codes_laws.specs.Inside.{decay_passage, decay_bytes}

-- ---- the passage

-- its number; all but 31 are given to an accepted entry alone
pub data Passed (s : List ℕ) (n : ℕ) : Type 0 where
  there : n ≡ 0 → Passed s n
  early : 31 ≤ n → n ≤ 33 → Passed s n
  none : Accepted s → n ≡ 36 → Passed s n

pub passed : (s : List ℕ) (n pointer : ℕ) → Passed s (decay_passage s n pointer).answer.number
unfolding passage_asked passage_by passage_refusal
passed s n pointer =
    let x = row_of s n in
    rw (part-number s (judge_of s) _ _ _ pointer)
    (by_tests (eqb (judge_of s).refusal 0) (not (is_subent s x)) (no_section x.bib)
    (no_passage (passage_of s x.bib _ pointer)) refl)
  where
    by_tests : (a b c d : Bool) → eqb (judge_of s).refusal 0 ≡ a
        → Passed s (cond (not a) 31 (cond b 32 (cond c 33 (cond d 36 0))))
    by_tests false b c d e = early (omega arith) (omega arith)
    by_tests true true c d e = early (omega arith) (omega arith)
    by_tests true false true d e = early (omega arith) (omega arith)
    by_tests true false false true e = none (eqb-true (judge_of s).refusal 0 e) refl
    by_tests true false false false e = there refl

-- ---- the code

-- what stands beside a number does not change it
answered-number : (before : ℕ) (x : CodeIn) → (answered before x).answer.number ≡ x.number
answered-number before x = either_way (λ (a : Answer). a.number ≡ x.number) (within 50 51 x.number) _ _ refl refl

pub data Outcome (s : List ℕ) (n pointer j room : ℕ) (number : ℕ) : Type 0 where
  refused : ((decay_passage s n pointer).answer.number ≡ 0 → ⊥) → number ≡ (decay_passage s n pointer).answer.number
      → Outcome s n pointer j room number
  unopened : (decay_passage s n pointer).answer.number ≡ 0
      → records_of (decay_bytes s n pointer) ≤ opening_of (decay_bytes s n pointer) j → number ≡ 36
      → Outcome s n pointer j room number
  faulty : (decay_passage s n pointer).answer.number ≡ 0
      → opening_of (decay_bytes s n pointer) j < records_of (decay_bytes s n pointer)
      → number ≡ (coded_in (decay_bytes s n pointer) j).number → 50 ≤ number → number ≤ 51 → Outcome s n pointer j room number
  short : (decay_passage s n pointer).answer.number ≡ 0
      → opening_of (decay_bytes s n pointer) j < records_of (decay_bytes s n pointer)
      → (coded_in (decay_bytes s n pointer) j).number ≡ 0 → room < length (run_in (decay_bytes s n pointer) j) → number ≡ 52
      → Outcome s n pointer j room number
  done : (decay_passage s n pointer).answer.number ≡ 0
      → opening_of (decay_bytes s n pointer) j < records_of (decay_bytes s n pointer)
      → (coded_in (decay_bytes s n pointer) j).number ≡ 0 → length (run_in (decay_bytes s n pointer) j) ≤ room → number ≡ 0
      → Outcome s n pointer j room number

module _ (s : List ℕ) (n pointer j room : ℕ) where
  abbrev p : List ℕ
  p = decay_bytes s n pointer

  abbrev number : ℕ
  number = (code_asked s n pointer j room).answer.number

  -- the number where the passage is there
  pub number-in : (decay_passage s n pointer).answer.number ≡ 0 → number ≡ (code_in p j room).number
  number-in z =
      ap (λ (x : CodeAnswer). x.answer.number) (asked_in s n pointer j room z)
      ∙ answered-number ((decay_passage s n pointer).first / 81) (code_in p j room)

  coded : (decay_passage s n pointer).answer.number ≡ 0 → opening_of p j < records_of p → Said (coded_in p j).number
      → Outcome s n pointer j room number
  coded z h (closed e) =
      either room (length (run_in p j))
      (λ l. short z h e l (number-in z ∙ ap (λ (x : CodeIn). x.number) (in-short p j room e l)))
      (λ l. done z h e l (number-in z ∙ ap (λ (x : CodeIn). x.number) (in-closed p j room e l)))
  coded z h (impossible e) =
      let q = number-in z ∙ ap (λ (x : CodeIn). x.number) (in-refused p j room (λ y. omega arith)) in
      faulty z h q (omega arith) (omega arith)
  coded z h (broken e) =
      let q = number-in z ∙ ap (λ (x : CodeIn). x.number) (in-refused p j room (λ y. omega arith)) in
      faulty z h q (omega arith) (omega arith)

  -- no opening: 36
  pub number-none : (decay_passage s n pointer).answer.number ≡ 0 → records_of p ≤ opening_of p j → number ≡ 36
  number-none z h =
      let e = ap (λ (x : Coded). x.number) (coded_none p j h) in
      number-in z ∙ ap (λ (x : CodeIn). x.number) (in-refused p j room (λ y. omega arith)) ∙ e

  pub outcome : Outcome s n pointer j room number
  outcome = by-passage (eqb (decay_passage s n pointer).answer.number 0) refl
    where
      by-passage : (b : Bool) → eqb (decay_passage s n pointer).answer.number 0 ≡ b → Outcome s n pointer j room number
      by-passage true e =
          let z = eqb-true (decay_passage s n pointer).answer.number 0 e in
          either (opening_of p j) (records_of p)
          (λ h.
          coded z h
          (rw (coded-there p j h) (scan-reaches p (opening_of p j) (records_of p) (omega arith)).said-so))
          (λ h. unopened z h (number-none z h))
      by-passage false e =
          let h = eqb-false (decay_passage s n pointer).answer.number 0 e in
          refused h (ap (λ (x : CodeAnswer). x.answer.number) (asked-refused s n pointer j room h))
