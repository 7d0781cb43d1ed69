-- The code that is laid out in the records of a passage, and its run.
-- Assumes nothing.
use mathlib.Core.Path.{◌≡◌, refl, sym, ap, ◌∙◌}
use mathlib.Core.List.{List}
use Prim.Native.Nat.{ℕ, ◌<◌}
use native.Mathlib.Omega.{arith}
use Rattle.paper_decay.specs.declared.types.Coded.{Coded}
use Rattle.paper_decay.specs.Records.{scan_records, Records}
use Rattle.paper_decay.specs.Code.{Code, write, Good}
use Rattle.paper_decay.specs.Fields.{run_of}
use Rattle.paper_decay.specs.Laid.{texts_of, Laid}
use Rattle.paper_decay.proofs.Found.{found-exactly}
use Rattle.paper_decay_run.specs.Run.{run_text}
use Rattle.paper_decay_run.proofs.Texts.{text-right}
use Rattle.paper_decay_run.proofs.Codes.{run-right}
use Rattle.paper_codes.specs.Opening.{records_of, opening_of, Opening}
use Rattle.paper_codes.specs.Asked.{coded_in, run_in}
use Rattle.paper_codes.proofs.Opening.{opening-exactly}
use Rattle.paper_codes.proofs.Answers.{coded-there}

pub records-of : (p : List ℕ) (i : ℕ) → i < records_of p → Records p i (records_of p)
records-of p i h = record { ordered = omega arith; whole = omega arith }

-- code j is found where a code is laid out from its opening on, and what is given is that code's run
pub run-of-code : (p : List ℕ) (j i : ℕ) → Opening p j i → (c : Code) → Good c → Laid (texts_of p i (records_of p)) (write c)
    → ((coded_in p j).number ≡ 0) × (run_in p j ≡ run_of c)
unfolding run_in
run-of-code p j i o c good laid =
    let h = o.there in
    let e : opening_of p j ≡ i = (opening-exactly p j i h).1 o in
    let r = records-of p i h in
    let z : (scan_records p i (records_of p)).number ≡ 0 = (found-exactly p i (records_of p) r).1 (record { code = c; good = good; laid = laid }) in
    let x : coded_in p j ≡ scan_records p i (records_of p) =
    coded-there p j (omega arith) ∙ ap (λ (k : ℕ). scan_records p k (records_of p)) e in (
      ap (λ (y : Coded). y.number) x ∙ z,
      rw (e, x) (ap run_text (text-right p i (records_of p) r z c good laid) ∙ run-right c good),
    )

-- the other way round
pub record Lying (p : List ℕ) (j : ℕ) : Type 0 where
  pub index : ℕ
  pub opens : Opening p j index
  pub code : Code
  pub good : Good code
  pub laid : Laid (texts_of p index (records_of p)) (write code)

pub code-of-run : (p : List ℕ) (j : ℕ) → opening_of p j < records_of p → (coded_in p j).number ≡ 0 → Lying p j
code-of-run p j h z =
    let i = opening_of p j in
    let e = coded-there p j h in
    let c = (found-exactly p i (records_of p) (records-of p i h)).0 (ap (λ (y : Coded). y.number) (sym e) ∙ z) in
    record { index = i; opens = (opening-exactly p j i h).0 refl; code = c.code; good = c.good; laid = c.laid }
