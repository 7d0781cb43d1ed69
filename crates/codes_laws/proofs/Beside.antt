-- Beside 36 and 52 nothing stands.
-- Assumes nothing.
use mathlib.Core.Path.{◌≡◌, refl, sym, ap, ◌∙◌}
use mathlib.Core.List.{List}
use Prim.Native.Nat.{ℕ, ◌*◌, ◌/◌}
use native.Mathlib.Omega.{arith}
use Rattle.paper_record.specs.Text.{text}
use Rattle.paper_entry.specs.declared.types.Answer.{Answer}
use Rattle.paper_entry.specs.Answer.{answer_of}
use Rattle.paper_entry.specs.Judging.{judge_of}
use Rattle.paper_questions.specs.Located.{row_of}
use Rattle.paper_questions.specs.Place.{first_byte}
use Rattle.paper_questions.specs.Passage.{passage_of}
use Rattle.paper_questions.specs.Refused.{passage_refusal}
use Rattle.paper_questions.specs.PartAnswers.{passage_by}
use Rattle.paper_questions.specs.Ask.{passage_asked}
use Rattle.paper_questions.proofs.Parts.{part-number}
use Rattle.paper_decay.specs.declared.types.Coded.{Coded}
use Rattle.paper_codes.specs.declared.types.CodeIn.{CodeIn}
use Rattle.paper_codes.specs.declared.types.CodeAnswer.{CodeAnswer}
use Rattle.paper_codes.specs.Asked.{coded_in, code_is, code_in, answered, code_asked}
use Rattle.paper_codes.proofs.Answers.{coded_none, in-refused, in-short}
use Rattle.paper_codes.proofs.Asked.{asked-refused, asked_in}
use Rattle.codes_laws.specs.Inside.{decay_passage, decay_bytes}
use Rattle.codes_laws.specs.Placed.{fault_at, NothingBeside}
use Rattle.codes_laws.proofs.Outcomes.{Passed, there, early, none, passed, Outcome, refused, unopened, faulty, short, done, outcome}

none_beside : (s : List ℕ) (n pointer : ℕ) → (decay_passage s n pointer).answer.number ≡ 36
    → (decay_passage s n pointer).answer ≡ answer_of 36
unfolding passage_asked passage_by
none_beside s n pointer e =
    let x = row_of s n in
    let at = passage_of s x.bib (text "DECAY-DATA") pointer in
    let number : ℕ = passage_refusal s (judge_of s) x at in
    let k : number ≡ 36 =
    sym (part-number s (judge_of s) number (first_byte at.first) (at.records * 81) pointer) ∙ e in
    rw k refl

abbrev bare : Answer → CodeAnswer
bare a = record { answer = a; length = 0 }

module _ (s : List ℕ) (n pointer j room : ℕ) where
  abbrev number : ℕ
  number = (code_asked s n pointer j room).answer.number

  by-36 : Outcome s n pointer j room number → number ≡ 36 → code_asked s n pointer j room ≡ fault_at 36 0 0
  by-36 (refused h q) e =
      asked-refused s n pointer j room h
      ∙ ap (λ (a : Answer). bare a) (none_beside s n pointer (sym q ∙ e))
  by-36 (unopened z h q) e =
      let c = coded_none (decay_bytes s n pointer) j h in
      let m : (coded_in (decay_bytes s n pointer) j).number ≡ 0 → ⊥ =
      λ y. let w = ap (λ (x : Coded). x.number) c in omega arith in
      asked_in s n pointer j room z
      ∙ ap (answered ((decay_passage s n pointer).first / 81))
      (in-refused (decay_bytes s n pointer) j room m ∙ ap (λ (x : Coded). code_is x.number x.at x.column 0) c)
  by-36 (faulty z h c l q) e = absurd (omega arith)
  by-36 (short z h c l q) e = absurd (omega arith)
  by-36 (done z h c l q) e = absurd (omega arith)

  by-52 : Outcome s n pointer j room number → number ≡ 52 → code_asked s n pointer j room ≡ fault_at 52 0 0
  by-52 (refused h q) e = by-passed (passed s n pointer)
    where
      by-passed : Passed s (decay_passage s n pointer).answer.number → code_asked s n pointer j room ≡ fault_at 52 0 0
      by-passed (there k) = absurd (omega arith)
      by-passed (early k l) = absurd (omega arith)
      by-passed (none k l) = absurd (omega arith)
  by-52 (unopened z h q) e = absurd (omega arith)
  by-52 (faulty z h c l q) e = absurd (omega arith)
  by-52 (short z h c l q) e =
      asked_in s n pointer j room z
      ∙ ap (answered ((decay_passage s n pointer).first / 81)) (in-short (decay_bytes s n pointer) j room c l)
  by-52 (done z h c l q) e = absurd (omega arith)

pub nothing-beside : NothingBeside
nothing-beside s n pointer j room = (
  by-36 s n pointer j room (outcome s n pointer j room),
  by-52 s n pointer j room (outcome s n pointer j room),
)
