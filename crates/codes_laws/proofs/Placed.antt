-- The records of a passage are the entry's own, and a fault is told by its place in the entry.
-- Assumes nothing.
use mathlib.Core.Path.{◌≡◌, refl, sym, ap, ◌∙◌}
use mathlib.Core.List.{List, [], ◌∷◌}
use Prim.Native.Nat.{ℕ, zero, suc, ◌+◌, ◌-◌, ◌*◌, ◌/◌, ◌≤◌, ◌<◌}
use native.Mathlib.Omega.{arith}
use native.Mathlib.Nat.{min-le_left}
use borrow.Author.Tests.{le-leb}
use lib.Dec.{eqb}
use lib.ListN.{length, get_or, take, drop, length-take}
use lib.Seq.{get_or-take, get_or-drop, take-nil, take-take, drop-drop}
use Rattle.paper_record.specs.Text.{text}
use Rattle.inside.proofs.PassageAnswered.{passage-answered}
use Rattle.inside.proofs.PassageAsked.{passage-asked}
use Rattle.paper_decay.specs.declared.types.Coded.{Coded}
use Rattle.paper_decay.specs.Records.{text_at, said, scan_records}
use Rattle.paper_codes.specs.Opening.{records_of, opening_of, opens, Opening}
use Rattle.paper_codes.specs.Asked.{coded_in, code_is, code_in, code_asked}
use Rattle.paper_codes.proofs.Opening.{opening-exactly}
use Rattle.paper_codes.proofs.Answers.{coded-there, in-refused}
use Rattle.paper_codes.proofs.Asked.{asked_in}
use Rattle.codes_laws.specs.Inside.{decay_passage, decay_bytes}
use Rattle.codes_laws.specs.Placed.{PassageRecords, fault_at, FaultTold, FaultOf, FaultInside}
use Rattle.codes_laws.proofs.Outcomes.{Passed, there, early, none, passed, Outcome, refused, unopened, faulty, short, done, outcome}

-- ---- a part of a list

drop-take : (m n : ℕ) (l : List ℕ) → drop m (take (m + n) l) ≡ take n (drop m l)
drop-take zero n l = let z : 0 + n ≡ n = omega arith in rw z refl
drop-take (suc m) n [] = let z : suc m + n ≡ suc (m + n) = omega arith in rw z (sym (take-nil n))
drop-take (suc m) n (b ∷ l) = let z : suc m + n ≡ suc (m + n) = omega arith in rw z (drop-take m n l)

module _ (s : List ℕ) (i k long : ℕ) (h : k < length (take long (drop (i * 81) s)) / 81) where
  abbrev p : List ℕ
  p = take long (drop (i * 81) s)

  inside : k * 81 + 81 ≤ long
  inside =
      let l : length p ≤ long = rw (length-take long (drop (i * 81) s)) (min-le_left long (length (drop (i * 81) s))) in
      omega arith

  text_same : text_at p k ≡ text_at s (i + k)
  text_same =
      let m = k * 81 + 11 in
      let w = inside in
      let z : m + (long - m) ≡ long = omega arith in
      let q : i * 81 + m ≡ (i + k) * 81 + 11 = omega arith in
      let a : drop m p ≡ take (long - m) (drop m (drop (i * 81) s)) =
      ap (λ (x : ℕ). drop m (take x (drop (i * 81) s))) (sym z) ∙ drop-take m (long - m) (drop (i * 81) s) in
      ap (take 55) a ∙ take-take 55 (long - m) (drop m (drop (i * 81) s)) (omega arith)
      ∙ ap (take 55) (drop-drop m (i * 81) s) ∙ ap (λ (x : ℕ). take 55 (drop x s)) q

  open-same : opens p k ≡ opens s (i + k)
  open-same =
      let m = k * 81 + 11 in
      let w = inside in
      let q : i * 81 + m ≡ (i + k) * 81 + 11 = omega arith in
      ap (λ (b : ℕ). eqb b 40)
      (get_or-take long (drop (i * 81) s) m 0 (omega arith) ∙ get_or-drop (i * 81) s m 0 ∙ ap (λ (x : ℕ). get_or s x 0) q)

pub passage-records : PassageRecords
passage-records s n pointer accepted x k h =
    let w = decay_passage s n pointer in
    let f : w.first ≡ x.index * 81 = (passage-answered s n (text "DECAY-DATA") pointer accepted x).1.first in
    let g = rw f at h in
    rw f (text_same s x.index k w.length g, open-same s x.index k w.length g)

-- ---- the place of a fault

module _ (s : List ℕ) (n pointer j : ℕ) where
  told : (i first number at column room : ℕ) → (decay_passage s n pointer).answer.number ≡ 0
      → (decay_passage s n pointer).first ≡ first * 81 → Opening (decay_bytes s n pointer) j i → 50 ≤ number → number ≤ 51
      → scan_records (decay_bytes s n pointer) i (records_of (decay_bytes s n pointer)) ≡ said number at column
      → code_asked s n pointer j room ≡ fault_at number (first + at + 1) column
  told i first number at column room z f o low high e =
      let q = decay_bytes s n pointer in
      let oi : opening_of q j ≡ i = (opening-exactly q j i o.there).1 o in
      let there = o.there in
      let c : coded_in q j ≡ said number at column =
      coded-there q j (omega arith) ∙ ap (λ (k : ℕ). scan_records q k (records_of q)) oi ∙ e in
      let nc : (coded_in q j).number ≡ 0 → ⊥ = λ y. let w = ap (λ (x : Coded). x.number) c in omega arith in
      let g : code_in q j room ≡ code_is number at column 0 =
      in-refused q j room nc ∙ ap (λ (x : Coded). code_is x.number x.at x.column 0) c in
      let d : (decay_passage s n pointer).first / 81 ≡ first = omega arith in
      asked_in s n pointer j room z ∙ rw (g, d, le-leb 50 number low, le-leb number 51 high) refl

pub fault-told : FaultTold
fault-told s n pointer j i accepted x o number at column low high e room =
    let (z, run) = passage-answered s n (text "DECAY-DATA") pointer accepted x in
    told s n pointer j i x.index number at column room z run.first o low high e

pub fault-inside : FaultInside
fault-inside s n pointer j room number low high e = by-outcome (outcome s n pointer j room)
  where
    by-outcome : Outcome s n pointer j room (code_asked s n pointer j room).answer.number → FaultOf s n pointer j number
    by-outcome (refused h q) = by-passed (passed s n pointer)
      where
        by-passed : Passed s (decay_passage s n pointer).answer.number → FaultOf s n pointer j number
        by-passed (there k) = absurd (omega arith)
        by-passed (early k l) = absurd (omega arith)
        by-passed (none k l) = absurd (omega arith)
    by-outcome (unopened z h q) = absurd (omega arith)
    by-outcome (short z h c l q) = absurd (omega arith)
    by-outcome (done z h c l q) = absurd (omega arith)
    by-outcome (faulty z h c l q) =
        let (accepted, inside) = passage-asked s n (text "DECAY-DATA") pointer z in
        let p = decay_bytes s n pointer in
        let x = scan_records p (opening_of p j) (records_of p) in
        let k : x.number ≡ number = ap (λ (y : Coded). y.number) (sym (coded-there p j h)) ∙ sym c ∙ e in
        record {
          accepted = accepted;
          passage = inside;
          index = opening_of p j;
          opening = (opening-exactly p j (opening_of p j) h).0 refl;
          at = x.at;
          column = x.column;
          found = ap (λ (m : ℕ). said m x.at x.column) k;
        }
