-- Every code inside the shape is answered by its run, and no other question is; the refusals, both ways.
-- Assumes nothing.
use mathlib.Core.Path.{◌≡◌, sym, ap, ◌∙◌, subst}
use mathlib.Core.List.{List}
use mathlib.Core.Logic.{◌⊎◌, inl, inr}
use Prim.Native.Nat.{ℕ, ◌/◌, ◌<◌, ◌≤◌}
use native.Mathlib.Omega.{arith}
use lib.ListN.{length}
use lib.Seq.{paste}
use Rattle.paper_record.specs.Text.{text}
use Rattle.paper_entry.specs.Judging.{Accepted}
use Rattle.inside.specs.Inside.{InsidePassage}
use Rattle.inside.proofs.PassageAnswered.{passage-answered}
use Rattle.inside.proofs.PassageAsked.{passage-asked}
use Rattle.paper_decay.specs.Code.{write}
use Rattle.paper_decay.specs.Fields.{run_of}
use Rattle.paper_decay.specs.Laid.{texts_of, Laid}
use Rattle.paper_decay.proofs.Found.{laid-once}
use Rattle.paper_codes.specs.declared.types.CodeIn.{CodeIn}
use Rattle.paper_codes.specs.declared.types.CodeAnswer.{CodeAnswer}
use Rattle.paper_codes.specs.Opening.{records_of, opening_of, Opening}
use Rattle.paper_codes.specs.Asked.{coded_in, run_in, answered, code_asked, code_stored}
use Rattle.paper_codes.proofs.Opening.{opening-exactly, opening-to, no-opening}
use Rattle.paper_codes.proofs.Answers.{in-short, in-closed, stored_refused, stored-closed}
use Rattle.paper_codes.proofs.Asked.{asked-refused, asked_in, none-stored, in-stored}
use Rattle.codes_laws.specs.Inside.{decay_passage, decay_bytes, InsideCode, given, CodeAnswered, CodeInside, OneCode, CodeShort}
use Rattle.codes_laws.specs.Inside.{CodeNone, CodeRefused, StoresNothing}
use Rattle.codes_laws.proofs.Runs.{run-of-code, code-of-run}
use Rattle.codes_laws.proofs.Outcomes.{Passed, there, early, none, passed, Outcome, refused, unopened, faulty, short, done}
use Rattle.codes_laws.proofs.Outcomes.{number-in, number-none, outcome}

-- ---- a code inside the shape

module _ (s : List ℕ) (n pointer j : ℕ) where
  abbrev p : List ℕ
  p = decay_bytes s n pointer

  pub there-passage : Accepted s → InsidePassage s n (text "DECAY-DATA") pointer → (decay_passage s n pointer).answer.number ≡ 0
  there-passage accepted x = (passage-answered s n (text "DECAY-DATA") pointer accepted x).0

  run_inside : (x : InsideCode s n pointer j) → ((coded_in p j).number ≡ 0) × (run_in p j ≡ run_of x.code)
  run_inside x = run-of-code p j x.index x.opens x.code x.good x.laid

  -- the code that an answer, or 52, is about
  made : (decay_passage s n pointer).answer.number ≡ 0 → opening_of p j < records_of p → (coded_in p j).number ≡ 0
      → Accepted s × ((x : InsideCode s n pointer j) × (run_in p j ≡ run_of x.code))
  made z h e =
      let (accepted, inside) = passage-asked s n (text "DECAY-DATA") pointer z in
      let l = code-of-run p j h e in
      let x : InsideCode s n pointer j =
      record { passage = inside; index = l.index; opens = l.opens; code = l.code; good = l.good; laid = l.laid } in
      (accepted, (x, (run_inside x).1))

pub code-answered : CodeAnswered
code-answered s n pointer j accepted x =
    let z = there-passage s n pointer j accepted x.passage in
    let (e, r) = run_inside s n pointer j x in
    let q = decay_bytes s n pointer in
    let l : length (run_in q j) ≡ length (run_of x.code) = ap length r in (
      λ room h.
          asked_in s n pointer j room z
          ∙ ap (answered ((decay_passage s n pointer).first / 81)) (in-closed q j room e (omega arith))
          ∙ ap given l,
      λ y h.
          let c = in-closed q j (length y) e (omega arith) in
          in-stored s n pointer j y z ∙ stored-closed q j y (ap (λ (k : CodeIn). k.number) c)
          ∙ ap (λ (k : List ℕ). paste y 0 k (length k)) r,
    )

pub code_inside : CodeInside
code_inside s n pointer j room e = by-outcome (outcome s n pointer j room)
  where
    by-outcome : Outcome s n pointer j room (code_asked s n pointer j room).answer.number
        → Accepted s × ((x : InsideCode s n pointer j) × (length (run_of x.code) ≤ room))
    by-outcome (refused h q) = absurd (h (sym q ∙ e))
    by-outcome (unopened z h q) = absurd (omega arith)
    by-outcome (faulty z o c h k) = absurd (omega arith)
    by-outcome (short z h k l q) = absurd (omega arith)
    by-outcome (done z h k l q) =
        let (accepted, (x, r)) = made s n pointer j z h k in
        (accepted, (x, subst (λ (m : List ℕ). length m ≤ room) r l))

pub one_code : OneCode
one_code s n pointer j x y =
    let q = decay_bytes s n pointer in
    let a : opening_of q j ≡ x.index = (opening-exactly q j x.index x.opens.there).1 x.opens in
    let b : opening_of q j ≡ y.index = (opening-exactly q j y.index y.opens.there).1 y.opens in
    let e : y.index ≡ x.index = sym b ∙ a in
    let laid = subst (λ (i : ℕ). Laid (texts_of q i (records_of q)) (write y.code)) e y.laid in
    laid-once (texts_of q x.index (records_of q)) x.code y.code x.good y.good x.laid laid

-- ---- the refusals

pub code-short : CodeShort
code-short s n pointer j room = (λ e. by-outcome e (outcome s n pointer j room), back)
  where
    by-outcome : (code_asked s n pointer j room).answer.number ≡ 52
        → Outcome s n pointer j room (code_asked s n pointer j room).answer.number
        → Accepted s × ((x : InsideCode s n pointer j) × (room < length (run_of x.code)))
    by-outcome e (refused h q) = by-passed (sym q ∙ e) (passed s n pointer)
      where
        by-passed : (decay_passage s n pointer).answer.number ≡ 52 → Passed s (decay_passage s n pointer).answer.number
            → Accepted s × ((x : InsideCode s n pointer j) × (room < length (run_of x.code)))
        by-passed w (there k) = absurd (omega arith)
        by-passed w (early k l) = absurd (omega arith)
        by-passed w (none k l) = absurd (omega arith)
    by-outcome e (unopened z h q) = absurd (omega arith)
    by-outcome e (faulty z o c h k) = absurd (omega arith)
    by-outcome e (done z h k l q) = absurd (omega arith)
    by-outcome e (short z h k l q) =
        let (accepted, (x, r)) = made s n pointer j z h k in
        (accepted, (x, subst (λ (m : List ℕ). room < length m) r l))

    back : Accepted s × ((x : InsideCode s n pointer j) × (room < length (run_of x.code)))
        → (code_asked s n pointer j room).answer.number ≡ 52
    back (accepted, (x, l)) =
        let z = there-passage s n pointer j accepted x.passage in
        let (e, r) = run_inside s n pointer j x in
        number-in s n pointer j room z
        ∙ ap (λ (k : CodeIn). k.number)
        (in-short (decay_bytes s n pointer) j room e (subst (λ (m : List ℕ). room < length m) (sym r) l))

pub code-none : CodeNone
code-none s n pointer j room = (λ e. by-outcome e (outcome s n pointer j room), back)
  where
    q : List ℕ
    q = decay_bytes s n pointer

    by-outcome : (code_asked s n pointer j room).answer.number ≡ 36
        → Outcome s n pointer j room (code_asked s n pointer j room).answer.number
        → Accepted s
        × (((decay_passage s n pointer).answer.number ≡ 36)
        ⊎ (InsidePassage s n (text "DECAY-DATA") pointer × ((i : ℕ) → Opening (decay_bytes s n pointer) j i → ⊥)))
    by-outcome e (refused h k) = by-passed (sym k ∙ e) (passed s n pointer)
      where
        by-passed : (decay_passage s n pointer).answer.number ≡ 36 → Passed s (decay_passage s n pointer).answer.number
            → Accepted s
            × (((decay_passage s n pointer).answer.number ≡ 36)
            ⊎ (InsidePassage s n (text "DECAY-DATA") pointer × ((i : ℕ) → Opening (decay_bytes s n pointer) j i → ⊥)))
        by-passed w (there k) = absurd (omega arith)
        by-passed w (early k l) = absurd (omega arith)
        by-passed w (none accepted l) = (accepted, inl w)
    by-outcome e (unopened z h k) =
        let (accepted, inside) = passage-asked s n (text "DECAY-DATA") pointer z in
        let t = opening-to q j in
        (accepted, inr (inside, (no-opening q j).0 (omega arith)))
    by-outcome e (faulty z o c h k) = absurd (omega arith)
    by-outcome e (short z h k l w) = absurd (omega arith)
    by-outcome e (done z h k l w) = absurd (omega arith)

    back : Accepted s
        × (((decay_passage s n pointer).answer.number ≡ 36)
        ⊎ (InsidePassage s n (text "DECAY-DATA") pointer × ((i : ℕ) → Opening (decay_bytes s n pointer) j i → ⊥)))
        → (code_asked s n pointer j room).answer.number ≡ 36
    back (accepted, inl e) =
        ap (λ (x : CodeAnswer). x.answer.number) (asked-refused s n pointer j room (λ z. omega arith)) ∙ e
    back (accepted, inr (inside, never)) =
        let e = (no-opening q j).1 never in
        number-none s n pointer j room (there-passage s n pointer j accepted inside) (omega arith)

pub code-refused : CodeRefused
code-refused s n pointer j room k low high = ((λ e. by-outcome e (outcome s n pointer j room), back), same)
  where
    same : (decay_passage s n pointer).answer.number ≡ k
        → code_asked s n pointer j room ≡ record { answer = (decay_passage s n pointer).answer; length = 0 }
    same e = asked-refused s n pointer j room (λ z. omega arith)

    back : (decay_passage s n pointer).answer.number ≡ k → (code_asked s n pointer j room).answer.number ≡ k
    back e = ap (λ (x : CodeAnswer). x.answer.number) (same e) ∙ e

    by-outcome : (code_asked s n pointer j room).answer.number ≡ k
        → Outcome s n pointer j room (code_asked s n pointer j room).answer.number
        → (decay_passage s n pointer).answer.number ≡ k
    by-outcome e (refused h q) = sym q ∙ e
    by-outcome e (unopened z h q) = absurd (omega arith)
    by-outcome e (faulty z o c h q) = absurd (omega arith)
    by-outcome e (short z h c l q) = absurd (omega arith)
    by-outcome e (done z h c l q) = absurd (omega arith)

pub stores-nothing : StoresNothing
stores-nothing s n pointer j y h = by-outcome (outcome s n pointer j (length y))
  where
    in-passage : (decay_passage s n pointer).answer.number ≡ 0 → code_stored s n pointer j y ≡ y
    in-passage z =
        in-stored s n pointer j y z
        ∙ stored_refused (decay_bytes s n pointer) j y (λ e. h (number-in s n pointer j (length y) z ∙ e))

    by-outcome : Outcome s n pointer j (length y) (code_asked s n pointer j (length y)).answer.number
        → code_stored s n pointer j y ≡ y
    by-outcome (refused g q) = none-stored s n pointer j y g
    by-outcome (unopened z g q) = in-passage z
    by-outcome (faulty z o c g q) = in-passage z
    by-outcome (short z g c l q) = in-passage z
    by-outcome (done z g c l q) = absurd (h q)
