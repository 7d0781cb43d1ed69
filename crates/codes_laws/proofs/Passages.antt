-- Code j of a passage in hand: what it comes to, by what is laid out in its records.
-- Assumes nothing.
use mathlib.Core.Path.{◌≡◌, refl, sym, ap, ◌∙◌, subst}
use mathlib.Core.List.{List, ◌++◌}
use Prim.Native.Nat.{ℕ, ◌+◌, ◌-◌, ◌*◌, ◌/◌, ◌≤◌, ◌<◌}
use native.Mathlib.Omega.{arith}
use lib.ListN.{length}
use lib.Seq.{paste}
use Rattle.laws.proofs.Search.{either}
use Rattle.paper_decay.specs.declared.types.Coded.{Coded}
use Rattle.paper_decay.specs.Records.{said, scan_records}
use Rattle.paper_decay.specs.Fields.{run_of}
use Rattle.paper_decay_run.specs.Run.{run_text, run_records}
use Rattle.paper_decay_run.proofs.Shorter.{records-few}
use Rattle.paper_decay_run.proofs.Texts.{records-run}
use Rattle.paper_codes.specs.declared.types.CodeIn.{CodeIn}
use Rattle.paper_codes.specs.Opening.{records_of, opening_of, Opening}
use Rattle.paper_codes.specs.Asked.{coded_in, run_in, code_is, code_in, stored_in}
use Rattle.paper_codes.proofs.Opening.{opening-exactly, opening-to}
use Rattle.paper_codes.proofs.Closed.{Said, closed, impossible, broken, scan-closes, scan-reaches}
use Rattle.paper_codes.proofs.Answers.{coded-there, coded_none, in-refused, in-short, in-closed, stored_refused, stored-closed}
use Rattle.decay_first.specs.Claims.{Fault, fifty, fifty_one}
use Rattle.decay_first.proofs.First.{fault-said}
use Rattle.codes_laws.specs.Passages.{CodeHere, InAnswered, InShort, InFaulty, InNone, InStores, InRoom}
use Rattle.codes_laws.proofs.Runs.{records-of, run-of-code}

pub in-answered : InAnswered
in-answered p j c x =
    let (z, r) = run-of-code p j x.index x.opens c x.good x.laid in
    let e : length (run_in p j) ≡ length (run_of c) = ap length r in (
      λ room h. in-closed p j room z (omega arith) ∙ ap (code_is 0 0 0) e,
      λ y h.
          let d = in-closed p j (length y) z (omega arith) in
          subst (λ (l : List ℕ). stored_in p j y ≡ paste y 0 l (length l)) r
          (stored-closed p j y (ap (λ (a : CodeIn). a.number) d)),
    )

pub in-shorter : InShort
in-shorter p j c x room h =
    let (z, r) = run-of-code p j x.index x.opens c x.good x.laid in
    let e : length (run_in p j) ≡ length (run_of c) = ap length r in
    in-short p j room z (omega arith)

-- what the scan of a faulty code says
faulty-coded : (p : List ℕ) (j i number at column : ℕ) → Opening p j i → Fault p i (records_of p) number at column
    → coded_in p j ≡ said number at column
faulty-coded p j i number at column o f =
    let h = o.there in
    let e : opening_of p j ≡ i = (opening-exactly p j i h).1 o in
    coded-there p j (omega arith)
    ∙ ap (λ (k : ℕ). scan_records p k (records_of p)) e
    ∙ fault-said p i (records_of p) number at column (records-of p i h) f

fault-some : (p : List ℕ) (i past number at column : ℕ) → Fault p i past number at column → number ≡ 0 → ⊥
fault-some p i past number at column (fifty e f) z = omega arith
fault-some p i past number at column (fifty_one e f) z = omega arith

pub in-faulty : InFaulty
in-faulty p j i number at column o f room =
    let e = faulty-coded p j i number at column o f in
    let n : (coded_in p j).number ≡ 0 → ⊥ =
    λ z. fault-some p i (records_of p) number at column f (sym (ap (λ (x : Coded). x.number) e) ∙ z) in
    in-refused p j room n ∙ ap (λ (x : Coded). code_is x.number x.at x.column 0) e

pub in-none : InNone
in-none p j none room =
    either (opening_of p j) (records_of p)
    (λ h. absurd (none (opening_of p j) ((opening-exactly p j (opening_of p j) h).0 refl)))
    (λ h.
    let e = coded_none p j h in
    let n : (coded_in p j).number ≡ 0 → ⊥ =
    λ z. let w : 36 ≡ 0 = sym (ap (λ (x : Coded). x.number) e) ∙ z in omega arith in
    in-refused p j room n ∙ ap (λ (x : Coded). code_is x.number x.at x.column 0) e)

pub in-stores : InStores
in-stores p j y h = stored_refused p j y h

-- ---- how much room is always enough

run-few : (p : List ℕ) (j : ℕ) → opening_of p j < records_of p → (coded_in p j).number ≡ 0 → length (run_in p j) ≤ length p
unfolding run_in
run-few p j h z =
    let i = opening_of p j in
    let past = records_of p in
    let e : coded_in p j ≡ scan_records p i past = coded-there p j h in
    let q : (scan_records p i past).number ≡ 0 = sym (ap (λ (x : Coded). x.number) e) ∙ z in
    let r = records-of p i h in
    let c = scan-closes p i past r q in
    let low = c.low in
    let high = c.high in
    let k = (scan_records p i past).at - i in
    let few : length (run_records 0 p i k (scan_records p i past).column) ≤ k * 55 + 55 =
    records-few k 0 p i (scan_records p i past).column in
    let same = ap length (records-run p i past r q) in
    let whole = r.whole in
    rw e (omega arith)

-- the scan says 0, 50 or 51, and no opening is 36
said-number : (n : ℕ) → Said n → n ≡ 52 → ⊥
said-number n (closed a) e = omega arith
said-number n (impossible a) e = omega arith
said-number n (broken a) e = omega arith

coded-number : (p : List ℕ) (j : ℕ) → (coded_in p j).number ≡ 52 → ⊥
coded-number p j e =
    either (opening_of p j) (records_of p)
    (λ h.
    said-number (scan_records p (opening_of p j) (records_of p)).number
    (scan-reaches p (opening_of p j) (records_of p) (omega arith)).said-so
    (sym (ap (λ (c : Coded). c.number) (coded-there p j h)) ∙ e))
    (λ h. let n = ap (λ (c : Coded). c.number) (coded_none p j h) in omega arith)

coded-opened : (p : List ℕ) (j : ℕ) → (coded_in p j).number ≡ 0 → opening_of p j < records_of p
coded-opened p j z =
    either (opening_of p j) (records_of p) (λ h. h)
    (λ h. let n = ap (λ (c : Coded). c.number) (coded_none p j h) in absurd (omega arith))

pub in-room : InRoom
in-room p j room h e =
    either 0 (coded_in p j).number
    (λ k.
    coded-number p j
    (sym (ap (λ (x : CodeIn). x.number) (in-refused p j room (λ z. omega arith))) ∙ e))
    (λ k.
    let z : (coded_in p j).number ≡ 0 = omega arith in
    let f = run-few p j (coded-opened p j z) z in
    let d = ap (λ (x : CodeIn). x.number) (in-closed p j room z (omega arith)) in
    omega arith)
