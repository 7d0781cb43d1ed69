-- From the passage's answer to the code's.
-- Assumes nothing.
use mathlib.Core.Path.{◌≡◌, sym, ap, ◌∙◌}
use mathlib.Core.List.{List}
use Prim.Native.Nat.{ℕ, ◌+◌, ◌*◌, ◌/◌, ◌≤◌}
use native.Mathlib.Omega.{arith}
use native.Mathlib.Nat.{min-le_right}
use lib.ListN.{length, drop, length-take, length-drop}
use Rattle.paper_rules.specs.Limits.{MOST-RECORDS}
use Rattle.paper_entry.proofs.Lengths.{accepted-good, whole-records}
use Rattle.paper_questions.specs.declared.types.PartAnswer.{PartAnswer}
use Rattle.paper_questions.specs.Ask.{passage_asked}
use Rattle.paper_questions.specs.PartAnswers.{Lies, bytes_in}
use Rattle.paper_questions.proofs.Parts.{passage-lies}
use Rattle.inside.proofs.PassageAsked.{passage-asked}
use Rattle.paper_codes.specs.declared.types.CodeIn.{CodeIn}
use Rattle.paper_codes.specs.declared.types.CodeAnswer.{CodeAnswer}
use Rattle.paper_codes.specs.Asked.{code_in, stored_in, answered, DECAY-DATA, passage_at, code_asked, code_stored}
use Rattle.paper_codes.proofs.Answers.{in-reaches}
use Rattle.paper_codes.proofs.Asked.{asked-refused, asked_in, none-stored, in-stored}

part-shorter : (s : List ℕ) (w : PartAnswer) → length (bytes_in s w) ≤ length s
part-shorter s w =
    let a : length (bytes_in s w) ≤ length (drop w.first s) =
    rw (length-take w.length (drop w.first s)) (min-le_right w.length (length (drop w.first s))) in
    let b = length-drop w.first s in
    omega arith

pub lies : (s : List ℕ) (n pointer : ℕ) → Lies s (passage_at s n pointer)
unfolding passage_asked
lies s n pointer = passage-lies _ _ _ _ _

-- a passage that is answered lies in an accepted entry, which has no more than 20,000 records
pub numbered : (s : List ℕ) (n pointer j room : ℕ) → (passage_at s n pointer).answer.number ≡ 0
    → let x : CodeIn = code_in (bytes_in s (passage_at s n pointer)) j room in
    ((passage_at s n pointer).first / 81 + x.at + 1 ≤ 4294967295) × (x.column ≤ 255)
numbered s n pointer j room z =
    let w = passage_at s n pointer in
    let p = bytes_in s w in
    let accepted = (passage-asked s n DECAY-DATA pointer z).0 in
    let few = whole-records (length s) (accepted-good s accepted) in
    let inside = (lies s n pointer).within in
    let short = part-shorter s w in
    let reach = in-reaches p j room in (
      sum (length s) w.first w.length (length p) (code_in p j room).at few.0 few.1 inside short reach.0,
      let wide = reach.1 in omega arith,
    )
  where
    sum : (long first bytes part at : ℕ) → long ≡ long / 81 * 81 → long / 81 ≤ MOST-RECORDS → first + bytes ≤ long
        → part ≤ long → at ≤ part / 81 → first / 81 + at + 1 ≤ 4294967295
    sum long first bytes part at a b c d e = omega arith

pub keyed : (s : List ℕ) (n pointer : ℕ) (w : PartAnswer) (k : List ℕ) → w ≡ passage_asked s n k pointer → k ≡ DECAY-DATA
    → w ≡ passage_at s n pointer
keyed s n pointer w k e f = e ∙ ap (λ (l : List ℕ). passage_asked s n l pointer) f

module _ (s : List ℕ) (n pointer j : ℕ) (w : PartAnswer) (is : w ≡ passage_at s n pointer) where
  pub refused : (y : List ℕ) → (w.answer.number ≡ 0 → ⊥)
      → (record { answer = w.answer; length = 0 } ≡ code_asked s n pointer j (length y)) × (y ≡ code_stored s n pointer j y)
  refused y h =
      let g : (passage_at s n pointer).answer.number ≡ 0 → ⊥ = λ z. h (ap (λ (x : PartAnswer). x.answer.number) is ∙ z) in
      (rw is (sym (asked-refused s n pointer j (length y) g)), sym (none-stored s n pointer j y g))

  zero : w.answer.number ≡ 0 → (passage_at s n pointer).answer.number ≡ 0
  zero z = ap (λ (x : PartAnswer). x.answer.number) (sym is) ∙ z

  pub placed : (p : List ℕ) (x : CodeIn) (room : ℕ) → p ≡ bytes_in s w → x ≡ code_in p j room → w.answer.number ≡ 0
      → (w.first / 81 + x.at + 1 ≤ 4294967295) × (x.column ≤ 255)
  placed p x room part found z = rw (found, part, is) (numbered s n pointer j room (zero z))

  pub given : (p : List ℕ) (x : CodeIn) (r : CodeAnswer) (y o : List ℕ) → p ≡ bytes_in s w → x ≡ code_in p j (length y)
      → o ≡ stored_in p j y → r ≡ answered (w.first / 81) x → w.answer.number ≡ 0
      → (r ≡ code_asked s n pointer j (length y)) × (o ≡ code_stored s n pointer j y)
  given p x r y o part found stored is-answered z = (
    is-answered ∙ rw (found, part, is) (sym (asked_in s n pointer j (length y) (zero z))),
    stored ∙ rw (part, is) (sym (in-stored s n pointer j y (zero z))),
  )
