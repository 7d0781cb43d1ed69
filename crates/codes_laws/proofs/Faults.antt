-- A question says 50 or 51 exactly where a code of the passage is so at fault, and with its record in the entry.
-- Assumes nothing.
use mathlib.Core.Path.{◌≡◌, refl, sym, ap, ◌∙◌, subst}
use mathlib.Core.List.{List}
use mathlib.Core.Logic.{◌⊎◌, inl, inr}
use Prim.Native.Nat.{ℕ, ◌+◌, ◌≤◌, ◌<◌}
use native.Mathlib.Nat.{eq-or-lt_of_le}
use native.Mathlib.Omega.{arith}
use Rattle.paper_decay.specs.Records.{said, scan_records, Records}
use Rattle.paper_codes.specs.declared.types.CodeAnswer.{CodeAnswer}
use Rattle.paper_codes.specs.Opening.{records_of}
use Rattle.paper_codes.specs.Asked.{code_asked}
use Rattle.decay_first.specs.Claims.{Fault, fifty, fifty_one}
use Rattle.decay_first.proofs.First.{met-first, fault-said}
use Rattle.codes_laws.specs.Inside.{decay_bytes}
use Rattle.codes_laws.specs.Placed.{fault_at, FaultOf}
use Rattle.codes_laws.specs.Faults.{FaultIn, CodeFaults, FaultsOnly}
use Rattle.codes_laws.proofs.Runs.{records-of}
use Rattle.codes_laws.proofs.Placed.{fault-told, fault-inside}

-- what the scan says of records, in plain words
said-fault : (p : List ℕ) (from past number at column : ℕ) → 50 ≤ number → number ≤ 51 → Records p from past
    → scan_records p from past ≡ said number at column → Fault p from past number at column
said-fault p from past number at column low high r e = by_number (eq-or-lt_of_le high)
  where
    by_number : (number ≡ 51) ⊎ (number < 51) → Fault p from past number at column
    by_number (inl q) =
        fifty_one q ((met-first p from past r at column).1.0 (e ∙ ap (λ (k : ℕ). said k at column) q))
    by_number (inr l) =
        let q : number ≡ 50 = omega arith in
        fifty q ((met-first p from past r at column).0.0 (e ∙ ap (λ (k : ℕ). said k at column) q))

-- the answer where a fault was found, by its place
found-answer : (s : List ℕ) (n pointer j room number : ℕ) → 50 ≤ number → number ≤ 51 → (f : FaultOf s n pointer j number)
    → code_asked s n pointer j room ≡ fault_at number (f.passage.index + f.at + 1) f.column
found-answer s n pointer j room number low high f =
    fault-told s n pointer j f.index f.accepted f.passage f.opening number f.at f.column low high
    f.found room

pub code-faults : CodeFaults
code-faults s n pointer j room number line column low high = (there, back)
  where
    there : code_asked s n pointer j room ≡ fault_at number line column → FaultIn s n pointer j number line column
    there e =
        let f : FaultOf s n pointer j number =
        fault-inside s n pointer j room number low high (ap (λ (a : CodeAnswer). a.answer.number) e) in
        let g : fault_at number (f.passage.index + f.at + 1) f.column ≡ fault_at number line column =
        sym (found-answer s n pointer j room number low high f) ∙ e in
        let c : f.column ≡ column = ap (λ (a : CodeAnswer). a.answer.column) g in
        let p = decay_bytes s n pointer in
        record {
          accepted = f.accepted;
          passage = f.passage;
          index = f.index;
          opening = f.opening;
          at = f.at;
          fault = subst (λ (k : ℕ). Fault p f.index (records_of p) number f.at k) c
              (said-fault p f.index (records_of p) number f.at f.column low high
              (records-of p f.index f.opening.there) f.found);
          counted = sym (ap (λ (a : CodeAnswer). a.answer.«record».0) g);
        }

    back : FaultIn s n pointer j number line column → code_asked s n pointer j room ≡ fault_at number line column
    back f =
        let p = decay_bytes s n pointer in
        let e = fault-said p f.index (records_of p) number f.at column (records-of p f.index f.opening.there)
        f.fault in
        fault-told s n pointer j f.index f.accepted f.passage f.opening number f.at column low high e room
        ∙ ap (λ (k : ℕ). fault_at number k column) (sym f.counted)

pub faults-only : FaultsOnly
faults-only s n pointer j room low high =
    let number = (code_asked s n pointer j room).answer.number in
    let f : FaultOf s n pointer j number = fault-inside s n pointer j room number low high refl in
    let g = found-answer s n pointer j room number low high f in
    g
    ∙ ap (λ (k : ℕ). fault_at number k f.column) (sym (ap (λ (a : CodeAnswer). a.answer.«record».0) g))
    ∙ ap (λ (k : ℕ). fault_at number (code_asked s n pointer j room).answer.«record».0 k)
    (sym (ap (λ (a : CodeAnswer). a.answer.column) g))
